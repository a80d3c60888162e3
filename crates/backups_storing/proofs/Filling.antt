-- Filling the output block by block.
use mathlib.Core.Path.{◌≡◌, sym, ap, ◌∙◌}
use mathlib.Core.List.{List, [], ◌++◌, append_assoc, append-nil}
use Prim.Native.Nat.{ℕ, suc, ◌+◌, ◌-◌, ◌*◌, min, ◌<◌, ◌≤◌}
use native.Mathlib.Omega.{arith}
use native.Mathlib.Decide.{dec_le}
use borrow.Author.Rules.{rules}
use borrow.Rule.Slice.PartMut.{put_mid, Post-is}
use lib.ListN.{length, take, drop, length-append, length-drop, length-take}
use lib.Seq.{take_at, drop-drop, take_all, length-take-le}
use Rattle.blocks.specs.Blocks.{block}
use Rattle.blocks.specs.Backups.{last_flag, blocks_from}
use Rattle.backups_storing.specs.Told.{with_block}
use Rattle.blocks_laws.proofs.Fields.{length_block}

-- so many bytes from here on, or all that are there
take_min : (n m : ℕ) (s : List ℕ) → m ≡ min n (length s) → take m s ≡ take n s
take_min n m s e = by (dec_le n (length s))
  where
    by : Dec (n ≤ length s) → take m s ≡ take n s
    by (yes l) = let f : m ≡ n = omega arith in ap (λ k. take k s) f
    by (no l) = take_all m s (omega arith) ∙ sym (take_all n s (omega arith))

pub nth_put : (k behind sp fl to : ℕ) (s y w : List ℕ) → fl ≡ last_flag behind → to ≡ 502 * k + min 502 (length s - 502 * k)
    → y ≡ block k sp fl (take (to - 502 * k) (drop (502 * k) s)) → put_mid (512 * k) (512 * k + 512 - 512 * k) w y ≡ with_block k behind sp s w
unfolding with_block
nth_put k behind sp fl to s y w e f g =
    let t : take (to - 502 * k) (drop (502 * k) s) ≡ take 502 (drop (502 * k) s) = take_min 502 (to - 502 * k) (drop (502 * k) s) (rw length-drop (omega arith)) in
    let z : y ≡ block k sp (last_flag behind) (take 502 (drop (502 * k) s)) = g ∙ rw (e, t) in
    rw (z, Post-is (512 * k) (512 * k + 512) w (omega arith))

pub ruleset nth = (nth_put, rules)

-- the blocks before position k stand
pub record Filled (n sp : ℕ) (s w : List ℕ) (k : ℕ) : Type 0 where
  pub size : length w ≡ 512 * n
  pub high : k ≤ n
  pub is : take (512 * k) w ++ blocks_from k (n - k) sp (drop (502 * k) s) ≡ blocks_from 0 n sp s

pub none_filled : (n sp : ℕ) (s w : List ℕ) → length w ≡ 512 * n → Filled n sp s w 0
none_filled n sp s w h = record { size = h; high = omega arith; is = let e : n - 0 ≡ n = omega arith in ap (λ m. blocks_from 0 m sp s) e }

module _ {n sp : ℕ} {s w : List ℕ} {k : ℕ} (v : Filled n sp s w k) where
  pub one_filled : (x : List ℕ) → k < n → x ≡ with_block k (n - k - 1) sp s w → Filled n sp s x (k + 1)
  unfolding with_block blocks_from
  one_filled x h e =
      let m = n - k - 1 in
      let t = drop (502 * k) s in
      let a = take (512 * k) w in
      let b = block k sp (last_flag m) (take 502 t) in
      let r = drop (512 * k + 512) w in
      let behind : n - k ≡ suc m = omega arith in
      let others : n - (k + 1) ≡ m = omega arith in
      let few : length (take 502 t) ≤ 502 = rw length-take (omega arith) in
      let block_size : length b ≡ 512 = length_block k sp (last_flag m) (take 502 t) few in
      let size_before : length a ≡ 512 * k = length-take-le (512 * k) w (omega (arith, v.size)) in
      let size_now : length (a ++ b) ≡ 512 * (k + 1) = length-append a b ∙ omega arith in
      let now_filled : take (512 * (k + 1)) x ≡ a ++ b = ap (take (512 * (k + 1))) (e ∙ sym (append_assoc a b r)) ∙ take_at (a ++ b) r (512 * (k + 1)) size_now in
      let step : 502 * (k + 1) ≡ 502 * k + 502 = omega arith in
      let bytes_behind : drop (502 * (k + 1)) s ≡ drop 502 t = ap (λ j. drop j s) step ∙ sym (drop-drop 502 (502 * k) s) in
      let was : a ++ (b ++ blocks_from (k + 1) m sp (drop 502 t)) ≡ blocks_from 0 n sp s = ap (λ j. a ++ blocks_from k j sp t) (sym behind) ∙ v.is in
      record {
        size = ap length e ∙ simp (length-append, length-drop) (omega (arith, v.size));
        high = omega arith;
        is = rw (now_filled, others, bytes_behind) (append_assoc a b (blocks_from (k + 1) m sp (drop 502 t)) ∙ was);
      }

  pub all_filled : n ≤ k → w ≡ blocks_from 0 n sp s
  unfolding blocks_from
  all_filled h =
      let none_behind : n - k ≡ 0 = omega arith in
      let whole : take (512 * k) w ≡ w = take_all (512 * k) w (omega (arith, v.size)) in
      sym (append-nil w) ∙ ap (λ t. t ++ []) (sym whole) ∙ ap (λ j. take (512 * k) w ++ blocks_from k j sp (drop (502 * k) s)) (sym none_behind) ∙ v.is

pub ruleset filling = (none_filled, one_filled, all_filled, rules)
