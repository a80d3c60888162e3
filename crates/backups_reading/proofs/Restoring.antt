-- Putting the payloads of good blocks one behind the other.
use mathlib.Core.Path.{◌≡◌, refl, sym, ap, ◌∙◌}
use mathlib.Core.List.{List, [], ◌∷◌, ◌++◌, append_assoc, append-nil}
use mathlib.Core.Bool.{true}
use mathlib.Core.Option.{none}
use Prim.Native.Nat.{ℕ, zero, suc, ◌+◌, ◌-◌, ◌*◌, min, ◌<◌, ◌≤◌}
use native.Mathlib.Omega.{arith}
use borrow.Author.Rules.{rules}
use borrow.Author.Tests.{eqb-true}
use borrow.Rule.Slice.PartMut.{put_mid, Post-is}
use lib.ListN.{length, take, drop, length-append, length-drop}
use lib.Seq.{take_at, take_all, take-take, drop-drop, length-take-le}
use Rattle.cdi.specs.Values.{value_of}
use Rattle.blocks.specs.Blocks.{used, area, payload}
use Rattle.blocks.specs.Backups.{is_length_good, cause_of, first_bad, payloads}
use Rattle.backups_reading.specs.Told.{with_payload}
use Rattle.blocks_laws.proofs.Parts.{drop_take}
use Rattle.blocks_laws.proofs.Tests.{neither}
use Rattle.blocks_laws.proofs.Again.{fitting, payloads_fill}

-- ── the window's length ──

-- the length that the block at this place says
used_at : (m : ℕ) (b : List ℕ) → used (take 512 (drop m b)) ≡ value_of (take 2 (drop (m + 4) b))
unfolding used
used_at m b = ap value_of (ap (take 2) (drop_take 4 512 (drop m b) ∙ ap (take 508) (drop-drop 4 m b)) ∙ take-take 2 508 (drop (m + 4) b) (omega arith))

full : (n m : ℕ) → is_length_good (suc n) m ≡ true → m ≡ 502
unfolding is_length_good
full n m h = eqb-true m 502 h

size_by_last : (n k sp : ℕ) (b : List ℕ) → length b ≡ 512 * suc n → first_bad k (suc n) sp b ≡ none → length (payloads (suc n) b) ≡ 502 * n + used (take 512 (drop (512 * n) b))
unfolding payloads first_bad
size_by_last zero k sp b l e =
    let g = neither (cause_of k 0 sp (take 512 b)) none e in
    let f = fitting k 0 sp (take 512 b) (length-take-le 512 b (omega arith)) g.0 in
    simp length-append (omega (arith, f.size))
size_by_last (suc n) k sp b l e =
    let g = neither (cause_of k (suc n) sp (take 512 b)) (first_bad (k + 1) (suc n) sp (drop 512 b)) e in
    let f = fitting k (suc n) sp (take 512 b) (length-take-le 512 b (omega arith)) g.0 in
    let i = size_by_last n (k + 1) sp (drop 512 b) (rw length-drop (omega arith)) g.1 in
    let d : drop (512 * n) (drop 512 b) ≡ drop (512 * suc n) b = drop-drop (512 * n) 512 b ∙ ap (λ j. drop j b) (step n) in
    let u = full n (length (payload (take 512 b))) f.fits in
    length-append (payload (take 512 b)) (payloads (suc n) (drop 512 b)) ∙ ap (λ j. length (payload (take 512 b)) + j) (i ∙ ap (λ t. 502 * n + used (take 512 t)) d) ∙ omega arith
  where
    step : (n : ℕ) → 512 + 512 * n ≡ 512 * suc n
    step n = omega arith

pub window_sized : (n sp r : ℕ) (b : List ℕ) → 1 ≤ n → length b ≡ 512 * n → first_bad 0 n sp b ≡ none
    → r ≡ value_of (take (512 * (n - 1) + 6 - (512 * (n - 1) + 4)) (drop (512 * (n - 1) + 4) b)) → 502 * (n - 1) + r ≡ length (payloads n b)
window_sized zero sp r b h l e f = absurd (omega arith)
window_sized (suc n) sp r b h l e f =
    let m : suc n - 1 ≡ n = omega arith in
    let two : 512 * n + 6 - (512 * n + 4) ≡ 2 = omega arith in
    let g : r ≡ value_of (take 2 (drop (512 * n + 4) b)) = rw (m, two) at f in
    rw m (ap (λ j. 502 * n + j) (g ∙ sym (used_at (512 * n) b)) ∙ sym (size_by_last n 0 sp b l e))

pub ruleset sizes = (window_sized, rules)

-- ── one payload ──

pub payload_put : (k to : ℕ) (b y w : List ℕ) → to ≡ 502 * k + min 502 (length w - 502 * k)
    → y ≡ take (512 * k + 8 + (to - 502 * k) - (512 * k + 8)) (drop (512 * k + 8) b) → put_mid (502 * k) (to - 502 * k) w y ≡ with_payload k b w
unfolding with_payload
payload_put k to b y w e f =
    let n : to - 502 * k ≡ min 502 (length w - 502 * k) = omega arith in
    let m : 512 * k + 8 + (to - 502 * k) - (512 * k + 8) ≡ min 502 (length w - 502 * k) = omega arith in
    let g : y ≡ take (min 502 (length w - 502 * k)) (drop (512 * k + 8) b) = f ∙ ap (λ j. take j (drop (512 * k + 8) b)) m in
    let r : drop (to - 502 * k) (drop (502 * k) w) ≡ drop (502 * k + min 502 (length w - 502 * k)) w = Post-is (502 * k) to w (omega arith) ∙ ap (λ j. drop j w) e in
    rw (g, r)

pub ruleset one_payload = (payload_put, rules)

-- ── one behind the other ──

-- the payloads before position k stand
pub record Returned (n sp : ℕ) (b w : List ℕ) (k : ℕ) : Type 0 where
  pub long : length b ≡ 512 * n
  pub high : k ≤ n
  pub size : length w ≡ length (payloads n b)
  pub room : 502 * n < length w + 502
  pub few : length w ≤ 502 * n
  pub good : first_bad k (n - k) sp (drop (512 * k) b) ≡ none
  pub is : take (502 * k) w ++ payloads (n - k) (drop (512 * k) b) ≡ payloads n b

pub none_returned : (n sp : ℕ) (b w : List ℕ) → length b ≡ 512 * n → first_bad 0 n sp b ≡ none → length w ≡ length (payloads n b) → Returned n sp b w 0
none_returned n sp b w l g s =
    let e : n - 0 ≡ n = omega arith in
    let f = payloads_fill n 0 sp b l g in
    record {
      long = l;
      high = omega arith;
      size = s;
      room = omega (arith, f.low);
      few = omega (arith, f.high);
      good = ap (λ m. first_bad 0 m sp b) e ∙ g;
      is = ap (λ m. payloads m b) e;
    }

-- the payload of a block by its place
payload_at : (m : ℕ) (b : List ℕ) → used (take 512 (drop m b)) ≤ 502 → payload (take 512 (drop m b)) ≡ take (used (take 512 (drop m b))) (drop (m + 8) b)
unfolding payload area
payload_at m b h =
    let u = used (take 512 (drop m b)) in
    let e : take 502 (drop 8 (take 512 (drop m b))) ≡ take 502 (drop (m + 8) b)
    = ap (take 502) (drop_take 8 512 (drop m b) ∙ ap (take 504) (drop-drop 8 m b)) ∙ take-take 502 504 (drop (m + 8) b) (omega arith) in
    ap (take u) e ∙ take-take u 502 (drop (m + 8) b) h

no_more : (r : List ℕ) → length r ≡ 0 → r ≡ []
no_more [] e = refl
no_more (x ∷ r) e = absurd (omega arith)

-- a payload behind those that stand: nothing follows the last one, and the others are full
behind : (m j : ℕ) (a q r : List ℕ) → is_length_good m (length q) ≡ true → length q ≤ 502 → length a + 502 ≡ j → (m ≡ 0 → length r ≡ 0) → take j (a ++ (q ++ r)) ≡ a ++ q
behind zero j a q r g f l h =
    rw (no_more r (h refl), append-nil q) (take_all j (a ++ q) (rw length-append (omega arith)))
behind (suc m) j a q r g f l h =
    let u = full m (length q) g in
    ap (take j) (sym (append_assoc a q r)) ∙ take_at (a ++ q) r j (length-append a q ∙ omega arith)

-- its length, by the room that is left
by_room : (m q r left : ℕ) → is_length_good m q ≡ true → q ≤ 502 → q + r ≡ left → (m ≡ 0 → r ≡ 0) → q ≡ min 502 left
by_room zero q r left g f e h = let z = h refl in omega arith
by_room (suc m) q r left g f e h = let u = full m q g in omega arith

none_left : (m : ℕ) (b : List ℕ) → m ≡ 0 → length (payloads m b) ≡ 0
unfolding payloads
none_left zero b e = refl
none_left (suc m) b e = absurd (omega arith)

module _ {n sp : ℕ} {b w : List ℕ} {k : ℕ} (v : Returned n sp b w k) where
  pub one_returned : (x : List ℕ) → k < n → x ≡ with_payload k b w → Returned n sp b x (k + 1)
  unfolding with_payload payloads first_bad
  one_returned x h e =
      let m = n - k - 1 in
      let t = drop (512 * k) b in
      let a = take (502 * k) w in
      let q = payload (take 512 t) in
      let c = drop (512 * (k + 1)) b in
      let here : n - k ≡ suc m = omega arith in
      let others : n - (k + 1) ≡ m = omega arith in
      let next_at : drop 512 t ≡ c = drop-drop 512 (512 * k) b ∙ ap (λ j. drop j b) (step k) in
      let g = neither (cause_of k m sp (take 512 t)) (first_bad (k + 1) m sp (drop 512 t)) (ap (λ j. first_bad k j sp t) (sym here) ∙ v.good) in
      let size_here : length t ≡ 512 * n - 512 * k = length-drop (512 * k) b ∙ ap (λ j. j - 512 * k) v.long in
      let f = fitting k m sp (take 512 t) (length-take-le 512 t (omega arith)) g.0 in
      let few_here : length q ≤ 502 = omega (arith, f.size, f.few) in
      let was : a ++ (q ++ payloads m c) ≡ payloads n b = ap (λ j. a ++ (q ++ payloads m j)) (sym next_at) ∙ ap (λ j. a ++ payloads j t) (sym here) ∙ v.is in
      let before : length a ≡ 502 * k = length-take-le (502 * k) w (omega (arith, v.room)) in
      let all_of : 502 * k + (length q + length (payloads m c)) ≡ length w
      = ap (λ j. j + (length q + length (payloads m c))) (sym before) ∙ ap (λ j. length a + j) (sym (length-append q (payloads m c))) ∙ sym (length-append a (q ++ payloads m c)) ∙ ap length was ∙ sym v.size in
      let r = drop (502 * k + length q) w in
      let left_over : length r ≡ length (payloads m c) = length-drop (502 * k + length q) w ∙ omega arith in
      let count : length q ≡ min 502 (length w - 502 * k) = by_room m (length q) (length (payloads m c)) (length w - 502 * k) f.fits few_here (omega arith) (none_left m c) in
      let place : take (length q) (drop (512 * k + 8) b) ≡ q = ap (λ j. take j (drop (512 * k + 8) b)) f.size ∙ sym (payload_at (512 * k) b f.few) in
      let now_is : x ≡ a ++ (q ++ r)
      = e ∙ ap (λ j. a ++ (take j (drop (512 * k + 8) b) ++ drop (502 * k + j) w)) (sym count) ∙ ap (λ z. a ++ (z ++ r)) place in
      let now_size : length x ≡ length w = ap length now_is ∙ length-append a (q ++ r) ∙ ap (λ j. length a + j) (length-append q r) ∙ omega arith in
      let stands : take (502 * (k + 1)) x ≡ a ++ q = ap (take (502 * (k + 1))) now_is ∙ behind m (502 * (k + 1)) a q r f.fits few_here (omega arith) (λ z. left_over ∙ none_left m c z) in
      record {
        long = v.long;
        high = omega arith;
        size = now_size ∙ v.size;
        room = omega (arith, now_size, v.room);
        few = omega (arith, now_size, v.few);
        good = rw (others, ← next_at) g.1;
        is = rw (stands, others) (append_assoc a q (payloads m c) ∙ was);
      }
    where
      step : (k : ℕ) → 512 * k + 512 ≡ 512 * (k + 1)
      step k = omega arith

  pub all_returned : n ≤ k → w ≡ payloads n b
  unfolding payloads
  all_returned h =
      let none_behind : n - k ≡ 0 = omega arith in
      let whole : take (502 * k) w ≡ w = take_all (502 * k) w (omega (arith, v.few)) in
      sym (append-nil w) ∙ ap (λ t. t ++ []) (sym whole) ∙ ap (λ j. take (502 * k) w ++ payloads j (drop (512 * k) b)) (sym none_behind) ∙ v.is

pub ruleset returning = (none_returned, one_returned, all_returned, rules)
