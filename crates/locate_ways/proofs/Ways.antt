-- The way to variable n along records and into one copy: what is left of the walk, from here, has it where the whole has it.
use mathlib.Core.Path.{◌≡◌, refl, sym, ap, ap₂, ◌∙◌}
use mathlib.Core.List.{List, [], ◌∷◌, ◌++◌, map, map-append, append-nil}
use mathlib.Core.Bool.{true}
use Prim.Native.Nat.{ℕ, zero, suc, pred, ◌+◌, ◌-◌, ◌*◌, ◌/◌, ◌%◌, ◌^◌, ◌≤◌, ◌<◌}
use native.Mathlib.Omega.{arith}
use native.Mathlib.Decide.{ℕ_discrete}
use native.Mathlib.Nat.{mul-div_cancel_left, mul-zero, div-lt_iff_lt-mul, mod-lt}
use borrow.Author.Rules.{rules}
use borrow.Author.Tests.{eq-eqb, ne_eqb}
use lib.ListN.{length, get_or, get_or-append, length-map}
use lib.Seq.{get_or-append-add}
use lib.IntN.{ℤ, pos, negsuc, neg_ℤ, ◌+ℤ◌}
use Rattle.cdi.specs.Faults.{Answer, fault}
use Rattle.cdi.specs.Faults.Answer.{accepted, refused}
use Rattle.cdi.specs.Rules.{natural}
use Rattle.cdi.specs.Walk.{Items, Step, Found, Variable, found, records, steps, copies, count, change, variables}
use Rattle.cdi.specs.Walk.Step.{add, stand}
use Rattle.cdi.specs.Table.{same_number}
use Rattle.cdi.specs.Plans.{field, kind_of, extra_of, replication_of, next_of, told, item_of, items_from, items_in, items_good}
use Rattle.cdi.proofs.Tests.{parts}
use Rattle.cdi.proofs.Signs.{up, down, same_number_law}
use Rattle.cdi.proofs.Walked.{variables_append, count_variables, count_copies, copy_start, nth_of_copies}
use Rattle.extent.specs.Reach.{Sound, by_offset, join, repeat, extent_of}
use Rattle.extent.specs.declared.Extent.{Extent}
use Rattle.extent.proofs.Signed.{rise_up, fall_down}
use Rattle.extent.proofs.Joins.{offset_sound, repeat_sound, extent_sound, extent_append}
use Rattle.extent.proofs.Reached.{Fits, fits_of, of_fits, past, join_first, join_second, Moves, offset_moves, arrives, extent_change}
use Rattle.extent.proofs.Holding.{by_offset_law}
use Rattle.locate_sums.specs.Sums.{element_extent}
use Rattle.locate_plan.specs.Judging.{good_in, items_extent}
use Rattle.locate_ways.specs.Finding.{answer, inside_of, standing, Finds, Site}
use Rattle.locate_copies.specs.Choosing.{moved_by, all_rise, all_fall, each_of, copy_at, copy_of, Chosen}
use Rattle.locate_copies.specs.declared.Copied.{Copied}
use Rattle.locate_plan.proofs.Subtrees.{Ranged, ranged, items_out, items_more, Same, same_steps, good_fits, good_members, good_told, good_following, records_between}
use Rattle.locate_plan.proofs.Elements.{element_sound, element_extent_law, items_sound}
use Rattle.locate_copies.proofs.Dividing.{one_sided}
use Rattle.locate_ways.proofs.Copies.{starts_at, copy_fits, copy_high, copy_low, copy_starts, share_up, share_down, same_start}

-- refusal 21
abbrev pub none : Answer Found
none = refused (fault 21 0)

-- ── lists of answers ──

-- the variables met, as answers
abbrev pub seen : ℕ → ℤ → List Step → List (Answer Found)
seen space a s = map (answer space) (variables a s)

pub length_seen : (space : ℕ) (a : ℤ) (s : List Step) → length (seen space a s) ≡ count s
length_seen space a s = length-map (variables a s) (answer space) ∙ count_variables a s

pub seen_append : (space : ℕ) (a : ℤ) (s r : List Step) → seen space a (s ++ r) ≡ seen space a s ++ seen space (a +ℤ change s) r
seen_append space a s r = ap (λ (l : List Variable). map (answer space) l) (variables_append a s r) ∙ map-append (answer space) (variables a s) (variables (a +ℤ change s) r)

module _ (space : ℕ) (s r : List Step) (a : ℤ) (n : ℕ) where
  pub behind : count s ≤ n → get_or (seen space a (s ++ r)) n none ≡ get_or (seen space (a +ℤ change s) r) (n - count s) none
  behind h =
      let e : length (seen space a s) + (n - count s) ≡ n = omega (arith, length_seen space a s) in
      rw (seen_append space a s r) (rw e at (get_or-append-add (seen space a s) (seen space (a +ℤ change s) r) (n - count s) none))

  pub ahead : n < count s → get_or (seen space a (s ++ r)) n none ≡ get_or (seen space a s) n none
  ahead h = rw (seen_append space a s r) (get_or-append (seen space a s) (seen space (a +ℤ change s) r) none n (omega (arith, length_seen space a s)))

-- an entry of a list, as an answer
nth_answer : (space : ℕ) (vs : List Variable) (n : ℕ) (d : Variable) → n < length vs → get_or (map (answer space) vs) n none ≡ answer space (get_or vs n d)
nth_answer space [] n d h = absurd (omega arith)
nth_answer space (v ∷ vs) zero d h = refl
nth_answer space (v ∷ vs) (suc n) d h = nth_answer space vs n d (omega arith)

pub some_variables : (r k n : ℕ) → n < r * k → 0 < k
some_variables r zero n h = absurd (omega (arith, rw mul-zero at h))
some_variables r (suc k) n h = omega arith

-- the copy that division chooses
nth_copy : (space r : ℕ) (s : List Step) (a : ℤ) (n : ℕ) → n < r * count s
    → get_or (seen space a (copies r s)) n none ≡ get_or (seen space (copy_start a (change s) (n / count s)) s) (n % count s) none
nth_copy space r s a n h =
    nth_answer space (variables a (copies r s)) n d (omega (arith, count_variables a (copies r s), count_copies r s))
    ∙ ap (answer space) (nth_of_copies r s a n d h)
    ∙ sym (nth_answer space (variables b s) (n % count s) d (omega (arith, count_variables b s, mod-lt n (some_variables r (count s) n h))))
  where
    d : Variable
    d = record { kind = 0; number = 0; address = pos 0; size = 0 }

    b : ℤ
    b = copy_start a (change s) (n / count s)

-- ── a record and an address as one number ──

packs : (t : List ℤ) (space s i : ℕ) → s ≤ 2 ^ 32 → i ≤ 4095
    → standing t space (s * 4096 + i) ≡ accepted (record { number = i; space = space; address = s; size = extra_of t i; kind = kind_of t i })
unfolding standing
packs t space s i h k = rw (ne_eqb (s * 4096 + i) 18446744073709551615 other, quotient, remainder)
  where
    other : s * 4096 + i ≡ 18446744073709551615 → ⊥
    other e = omega arith

    quotient : (s * 4096 + i) / 4096 ≡ s
    quotient = omega arith

    remainder : (s * 4096 + i) % 4096 ≡ i
    remainder = omega arith

record_held : (s i e l : ℕ) → i < e → e ≤ 4095 → e * 8 ≤ l → (s * 4096 + i) % 4096 * 8 + 8 ≤ l
record_held s i e l b few long = let z : (s * 4096 + i) % 4096 ≡ i = omega arith in rw z (omega arith)

-- ── an element's steps ──

module _ (t : List ℤ) (i : ℕ) (m : Items) where
  pub group_steps : kind_of t i ≡ 2 → steps i (item_of t i m Items.no_items) ≡ add (field t i 2) ∷ copies (replication_of t i) (steps (i + 1) m)
  unfolding item_of steps
  group_steps h = rw (eq-eqb (kind_of t i) 2 h) (ap (λ (l : List Step). add (field t i 2) ∷ l) (append-nil (copies (replication_of t i) (steps (i + 1) m))))

  pub variable_steps : (kind_of t i ≡ 2 → ⊥) → steps i (item_of t i m Items.no_items) ≡ add (field t i 2) ∷ stand (kind_of t i) i (extra_of t i) ∷ []
  unfolding item_of steps
  variable_steps h = rw (ne_eqb (kind_of t i) 2 h)

  -- before what follows it, which has number x
  group_before : (f : Items) → kind_of t i ≡ 2 → steps i (item_of t i m f) ≡ add (field t i 2) ∷ (copies (replication_of t i) (steps (i + 1) m) ++ steps (i + 1 + records m) f)
  unfolding item_of steps
  group_before f h = rw (eq-eqb (kind_of t i) 2 h)

  variable_before : (f : Items) → (kind_of t i ≡ 2 → ⊥) → steps i (item_of t i m f) ≡ add (field t i 2) ∷ stand (kind_of t i) i (extra_of t i) ∷ steps (i + 1) f
  unfolding item_of steps
  variable_before f h = rw (ne_eqb (kind_of t i) 2 h)

  element_steps : (f : Items) (x : ℕ) → i + 1 + records m ≡ x → ((kind_of t i ≡ 2 → ⊥) → x ≡ i + 1)
      → steps i (item_of t i m f) ≡ steps i (item_of t i m Items.no_items) ++ steps x f
  element_steps f x g v = by (ℕ_discrete (kind_of t i) 2)
    where
      by : Dec (kind_of t i ≡ 2) → steps i (item_of t i m f) ≡ steps i (item_of t i m Items.no_items) ++ steps x f
      by (yes z) = group_before f z ∙ rw g (ap (λ (l : List Step). l ++ steps x f) (sym (group_steps z)))
      by (no z) = variable_before f z ∙ rw (v z) (ap (λ (l : List Step). l ++ steps (i + 1) f) (sym (variable_steps z)))

group_extent : (t : List ℤ) (i : ℕ) (m : Extent) → kind_of t i ≡ 2 → element_extent t i m ≡ join (by_offset (field t i 2)) (repeat (replication_of t i) m)
unfolding element_extent
group_extent t i m h = rw (eq-eqb (kind_of t i) 2 h)

-- a number that is a count
counted_plain : (z : ℤ) (n : ℕ) → z ≡ pos n → natural (neg_ℤ z) ≤ 0
unfolding down
counted_plain z n e = omega (arith, fall_down z, ap down e)

-- ── what a good record says, walked from address a ──

pub record Entry (t : List ℤ) (d i e a : ℕ) (f : Items) : Type 0 where
  pub range : Ranged t i e
  pub inner : good_in t (d + 1) (i + 1) (next_of t i) ≡ true
  pub counts : natural (field t i 6) ≡ count (steps i (item_of t i (items_in t (i + 1) (next_of t i)) Items.no_items))
  pub plain : natural (neg_ℤ (field t i 6)) ≤ 0
  pub moves : Moves (field t i 7) (element_extent t i (items_extent t (i + 1) (next_of t i)))
  pub fits : Fits a (element_extent t i (items_extent t (i + 1) (next_of t i)))
  pub after : Fits (past a (element_extent t i (items_extent t (i + 1) (next_of t i)))) (extent_of (steps (next_of t i) f))

pub entry : (t : List ℤ) (k d i e a : ℕ) → i < e → e ≤ i + suc k → items_good t (suc k) d i e ≡ true → Fits a (extent_of (steps i (items_from t (suc k) i e)))
    → (steps i (items_from t (suc k) i e) ≡ steps i (item_of t i (items_in t (i + 1) (next_of t i)) Items.no_items) ++ steps (next_of t i) (items_from t k (next_of t i) e))
    × Entry t d i e a (items_from t k (next_of t i) e)
unfolding items_extent items_in told natural
entry t k d i e a b n g f = (
  walked,
  record {
    range = ran;
    inner = good_inside;
    counts = ap natural (same_number_law (field t i 6) (pos (count S)) tells.0);
    plain = counted_plain (field t i 6) (count S) (same_number_law (field t i 6) (pos (count S)) tells.0);
    moves = rw (same_number_law (field t i 7) (change S) tells.1, ← own_is) (extent_change S);
    fits = join_first a own following own_sound following_sound whole;
    after = join_second a own following own_sound following_sound whole;
  },
)
  where
    x : ℕ
    x = next_of t i

    ran : Ranged t i e
    ran = ranged t i e b (good_fits t k d i e b g)

    same : Same t k (x - (i + 1)) (d + 1) (i + 1) x
    same = same_steps t k (x - (i + 1)) (d + 1) (i + 1) x (omega (arith, ran.nests)) (omega arith)

    good_inside : items_good t (x - (i + 1)) (d + 1) (i + 1) x ≡ true
    good_inside = sym same.good ∙ good_members t k d i e b g

    M : Items
    M = items_from t (x - (i + 1)) (i + 1) x

    members : items_from t k (i + 1) x ≡ M
    members = same.items (good_members t k d i e b g)

    numbered : i + 1 + records M ≡ x
    numbered = records_between t (x - (i + 1)) (d + 1) (i + 1) x (omega (arith, ran.ahead)) (omega arith) good_inside

    S : List Step
    S = steps i (item_of t i M Items.no_items)

    own : Extent
    own = element_extent t i (extent_of (steps (i + 1) M))

    own_is : extent_of S ≡ own
    own_is = element_extent_law t i M ran.one

    tells : (same_number (field t i 6) (pos (count S)) ≡ true) × (same_number (field t i 7) (change S) ≡ true)
    tells = parts (same_number (field t i 6) (pos (count S))) (same_number (field t i 7) (change S)) (rw members at (good_told t k d i e b g))

    following : Extent
    following = extent_of (steps x (items_from t k x e))

    walked : steps i (items_from t (suc k) i e) ≡ S ++ steps x (items_from t k x e)
    walked = ap (steps i) (items_more t k i e b) ∙ rw members (element_steps t i M (items_from t k x e) x numbered ran.alone)

    own_sound : Sound own
    own_sound = element_sound t i (extent_of (steps (i + 1) M)) (extent_sound (steps (i + 1) M))

    following_sound : Sound following
    following_sound = extent_sound (steps x (items_from t k x e))

    whole : Fits a (join own following)
    whole = rw (walked, extent_append, own_is) at f

-- ── the loop ──

-- what is known at record i, address a, with `left` variables to pass
pub record Seeking (t : List ℤ) (from end origin n i a left : ℕ) : Type 0 where
  pub upto : i ≤ end
  pub since : from ≤ i
  pub depth : ℕ
  pub enough : ℕ
  pub spare : end ≤ i + enough
  pub good : items_good t enough depth i end ≡ true
  pub fits : Fits a (extent_of (steps i (items_from t enough i end)))
  pub whole : (space : ℕ) → inside_of t space from end origin n ≡ get_or (seen space (pos a) (steps i (items_from t enough i end))) left none

pub start : (t : List ℤ) (from end origin n : ℕ) → from ≤ end → Site t from end origin → Seeking t from end origin n from origin n
unfolding inside_of items_extent items_in
start t from end origin n h s = record {
  upto = h;
  since = omega arith;
  depth = s.depth;
  enough = end - from;
  spare = omega arith;
  good = s.good;
  fits = fits_of origin (items_extent t from end) s.keeps;
  whole = λ space. refl;
}

module _ {t : List ℤ} {from end origin n i a left : ℕ} (v : Seeking t from end origin n i a left) where
  pub nowhere : end ≤ i → Finds t from end origin n 18446744073709551615
  unfolding standing steps variables
  nowhere h = record { same = λ space. sym (v.whole space ∙ rw (items_out t v.enough i end h)); held = λ e. absurd (e refl) }

  module _ (b : i < end) where
    more : v.enough ≡ suc (pred v.enough)
    more = omega (arith, v.spare)

    abbrev x : ℕ
    x = next_of t i

    abbrev M : Items
    M = items_in t (i + 1) (next_of t i)

    abbrev E : Extent
    E = items_extent t (i + 1) (next_of t i)

    abbrev S : List Step
    S = steps i (item_of t i (items_in t (i + 1) (next_of t i)) Items.no_items)

    abbrev own : Extent
    own = element_extent t i (items_extent t (i + 1) (next_of t i))

    abbrev rest : List Step
    rest = steps (next_of t i) (items_from t (pred v.enough) (next_of t i) end)

    both : (steps i (items_from t (suc (pred v.enough)) i end) ≡ S ++ rest) × Entry t v.depth i end a (items_from t (pred v.enough) x end)
    both = entry t (pred v.enough) v.depth i end a b (omega (arith, more, v.spare)) (rw more at v.good) (rw more at v.fits)

    pub en : Entry t v.depth i end a (items_from t (pred v.enough) x end)
    en = both.1

    here : (space : ℕ) → inside_of t space from end origin n ≡ get_or (seen space (pos a) (S ++ rest)) left none
    here space = v.whole space ∙ rw (more, both.0)

    pub own_moves : Moves (change S) own
    unfolding items_extent
    own_moves = rw (element_extent_law t i M en.range.one) at (extent_change S)

    pub address_high : a ≤ 2 ^ 32
    address_high = omega (arith, en.fits, element_sound t i E (items_sound t (i + 1) x))

    -- neither the whole change nor the offset takes the address below 0
    low_enough : (z : ℤ) → down z ≤ a + up z → natural (neg_ℤ z) ≤ a
    low_enough z h = by (natural (neg_ℤ z)) refl
      where
        by : (d : ℕ) → natural (neg_ℤ z) ≡ d → natural (neg_ℤ z) ≤ a
        by zero e = omega arith
        by (suc d) e = omega (arith, one_sided z (omega arith), rise_up z, fall_down z)

    -- nor above the last
    high_enough : (z : ℤ) → up z ≤ 2 ^ 32 + down z → natural z ≤ 2 ^ 32
    unfolding up down
    high_enough (pos n) h = omega (arith, rise_up (pos n))
    high_enough (negsuc n) h = omega (arith, rise_up (negsuc n))

    pub change_low : natural (neg_ℤ (field t i 7)) ≤ a
    change_low = low_enough (field t i 7) (omega (arith, en.fits, en.moves))

    pub offset_low : (by_offset (field t i 2)).below ≤ a
    unfolding element_extent join
    offset_low = omega (arith, en.fits.low)

    pub start_low : natural (neg_ℤ (field t i 2)) ≤ a
    start_low = rw (← (by_offset_law (field t i 2))) at offset_low

    pub change_high : natural (field t i 7) ≤ 2 ^ 32
    change_high = high_enough (field t i 7) (omega (arith, en.fits, en.moves, element_sound t i E (items_sound t (i + 1) x)))

    pub start_high : natural (field t i 2) ≤ 2 ^ 32
    unfolding element_extent join
    start_high = high_enough (field t i 2) (omega (arith, en.fits, offset_moves (field t i 2), offset_sound (field t i 2)))

    pub count_plain : natural (neg_ℤ (field t i 6)) ≤ 0
    count_plain = en.plain

    pub start_most : {s : ℕ} → s ≡ moved_by t i 2 a → s ≤ 2 ^ 32
    unfolding element_extent join moved_by
    start_most es = omega (arith, en.fits, offset_moves (field t i 2), offset_sound (field t i 2), rise_up (field t i 2), fall_down (field t i 2))

    pub next_first : i < natural (field t i 5)
    next_first = en.range.ahead

    pub next_last : natural (field t i 5) ≤ end
    next_last = en.range.nests

    pub change_is : moved_by t i 7 a ≡ past a own
    unfolding moved_by
    change_is = omega (arith, en.moves, rise_up (field t i 7), fall_down (field t i 7))

    module _ {c : ℕ} (ec : c ≡ natural (field t i 6)) where
      pub pass : c ≤ left → {a' : ℕ} → a' ≡ moved_by t i 7 a → {y : ℕ} → y ≡ natural (field t i 5) → Seeking t from end origin n y a' (left - c)
      pass h {a'} ea ey = rw (ea, change_is, ey, ec) (record {
        upto = en.range.nests;
        since = omega (arith, v.since, en.range.ahead);
        depth = v.depth;
        enough = pred v.enough;
        spare = omega (arith, v.spare, more, en.range.ahead);
        good = good_following t (pred v.enough) v.depth i end b (rw more at v.good);
        fits = en.after;
        whole = λ space.
            here space
            ∙ behind space S rest (pos a) left (omega (arith, en.counts))
            ∙ rw (arrives a (change S) own own_moves en.fits.low, ← en.counts);
      })

      module _ (h : left < c) {s : ℕ} (es : s ≡ moved_by t i 2 a) {k : ℕ} (ek : k ≡ natural (field t i 0)) where
        -- it stands in this element
        within : (space : ℕ) → inside_of t space from end origin n ≡ get_or (seen space (pos a) S) left none
        within space = here space ∙ ahead space S rest (pos a) left (omega (arith, en.counts))

        pub start_is : pos a +ℤ field t i 2 ≡ pos s
        unfolding moved_by
        start_is =
            arrives a (field t i 2) (by_offset (field t i 2)) (offset_moves (field t i 2)) offset_low
            ∙ ap pos (rw (← (by_offset_law (field t i 2))) (sym es))

        pub variable_is : (k ≡ 2 → ⊥) → end ≤ 4095 → end * 8 ≤ length t → {w : ℕ} → w ≡ s * 4096 + i → Finds t from end origin n w
        unfolding answer found variables count natural
        variable_is e few long ew = rw ew (record {
          same = λ space. packs t space s i (start_most es) (omega arith) ∙ sym (within space ∙ rw (variable_steps t i M other, zero_left, start_is));
          held = λ no. record_held s i end (length t) b few long;
        })
          where
            other : natural (field t i 0) ≡ 2 → ⊥
            other q = e (ek ∙ q)

            zero_left : left ≡ 0
            zero_left = omega (arith, en.counts, ap count (variable_steps t i M other))

        module _ (e : k ≡ 2) where
          abbrev r : ℕ
          r = natural (field t i 4)

          abbrev K : ℕ
          K = count (steps (i + 1) (items_in t (i + 1) (next_of t i)))

          pub is_group : natural (field t i 0) ≡ 2
          is_group = sym ek ∙ e

          pub copies_fit : Fits s (repeat (natural (field t i 4)) E)
          unfolding moved_by
          copies_fit =
              rw es (rw (← (by_offset_law (field t i 2))) at
              (join_second a (by_offset (field t i 2)) (repeat (natural (field t i 4)) E) (offset_sound (field t i 2)) (repeat_sound (natural (field t i 4)) E (items_sound t (i + 1) x))
              (rw (group_extent t i E is_group) at en.fits)))

          pub copies_move : Moves (field t i 7) (join (by_offset (field t i 2)) (repeat (natural (field t i 4)) E))
          copies_move = rw (group_extent t i E is_group) at en.moves

          pub count_all : natural (field t i 6) ≡ natural (field t i 4) * K
          unfolding count
          count_all = en.counts ∙ ap count (group_steps t i M is_group) ∙ count_copies (natural (field t i 4)) (steps (i + 1) M)

          pub each_one : each_of t i ≡ K
          unfolding each_of
          each_one = rw count_all (mul-div_cancel_left K {n = natural (field t i 4)} en.range.one)

          pub some : 0 < K
          some = some_variables (natural (field t i 4)) K left (omega (arith, count_all))

          pub below : left / K < natural (field t i 4)
          below = (div-lt_iff_lt-mul some).1 (omega (arith, count_all))

          pub chosen : Chosen t i s left
          unfolding all_rise all_fall
          chosen = record {
            within = omega arith;
            rises = omega (arith, change_high, start_low, address_high);
            falls = omega (arith, change_low, start_high, address_high);
            some = en.range.one;
            each = rw each_one some;
            high = rw (each_one, share_up (field t i 7) (field t i 2) (natural (field t i 4)) E en.range.one copies_move)
                (copy_high s (natural (field t i 4)) (left / K) E (items_sound t (i + 1) x) copies_fit below);
            low = rw (each_one, share_down (field t i 7) (field t i 2) (natural (field t i 4)) E en.range.one copies_move)
                (copy_low s (natural (field t i 4)) (left / K) E (items_sound t (i + 1) x) copies_fit below);
          }

          module _ {ch : Copied} (ech : ch ≡ copy_of t i s left) where
            pub starts : ch.start ≡ starts_at s E (left / K)
            unfolding copy_of copy_at all_rise all_fall
            starts = ap (λ (z : Copied). z.start) ech ∙ rw each_one (same_start (field t i 7) (field t i 2) (natural (field t i 4)) E en.range.one copies_move s (left / K))

            pub numbers : ch.number ≡ left % K
            unfolding copy_of
            numbers = ap (λ (z : Copied). z.number) ech ∙ rw each_one

            pub chosen_site : {y : ℕ} → y ≡ natural (field t i 5) → Site t (i + 1) y ch.start
            chosen_site ey = rw ey (record {
              depth = v.depth + 1;
              good = en.inner;
              keeps = of_fits ch.start E (rw starts (copy_fits s (natural (field t i 4)) (left / K) E (items_sound t (i + 1) x) copies_fit below));
            })

            -- the walk of all copies has it in this one
            walked : (space : ℕ) → inside_of t space from end origin n ≡ inside_of t space (i + 1) x ch.start ch.number
            unfolding inside_of variables items_extent
            walked space =
                within space
                ∙ ap (λ (l : List Step). get_or (seen space (pos a) l) left none) (group_steps t i M is_group)
                ∙ ap (λ (z : ℤ). get_or (seen space z (copies (natural (field t i 4)) (steps (i + 1) M))) left none) start_is
                ∙ (nth_copy space (natural (field t i 4)) (steps (i + 1) M) (pos s) left (omega (arith, count_all))
                ∙ ap (λ (z : ℤ). get_or (seen space z (steps (i + 1) M)) (left % K) none)
                (copy_starts s (natural (field t i 4)) (left / K) E (items_sound t (i + 1) x) copies_fit below (change (steps (i + 1) M)) (extent_change (steps (i + 1) M)))
                ∙ ap₂ (λ (p m : ℕ). get_or (seen space (pos p) (steps (i + 1) M)) m none) (sym starts) (sym numbers))

            pub chosen_is : {y : ℕ} → y ≡ natural (field t i 5) → {w : ℕ} → Finds t (i + 1) y ch.start ch.number w → Finds t from end origin n w
            chosen_is ey q = record { same = λ space. q.same space ∙ rw ey (sym (walked space)); held = q.held }

pub ruleset seeking = (start, nowhere, pass, variable_is, chosen_is, rules)

pub ruleset stepping = (address_high, change_low, start_low, change_high, start_high, start_most, count_plain, next_first, next_last, chosen, chosen_site, rules)
