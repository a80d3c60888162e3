-- The judge of a block, and of one block behind the other.
use mathlib.Core.Path.{◌≡◌, sym, ap, ◌∙◌}
use mathlib.Core.List.{List}
use mathlib.Core.Bool.{Bool, true, false, ◌&&◌}
use Prim.Native.Nat.{ℕ, zero, suc, ◌+◌, ◌-◌, ◌*◌, ◌<◌, ◌≤◌}
use native.Mathlib.Omega.{arith}
use borrow.Author.Rules.{rules}
use borrow.Author.Tests.{le-leb, lt-leb, eq-eqb, ne_eqb}
use lib.Dec.{eqb}
use lib.ListN.{length, take, drop, get_or}
use lib.Seq.{drop-drop}
use Rattle.cdi.specs.Lists.{◌or_else◌, all, between}
use Rattle.cdi.specs.Values.{value_of}
use Rattle.std.specs.Prelude.{Result, Ok, Err}
use Rattle.refusals.specs.Refusals.{refusal}
use Rattle.refusals.specs.declared.Refusal.{Refusal}
use Rattle.blocks.specs.Blocks.{number, used, space, flag, area, padding}
use Rattle.blocks.specs.Backups.{last_flag, is_length_good, is_checked, is_good, cause_of, judging, first_bad}
use Rattle.blocks_laws.proofs.Parts.{drop_take}
use Rattle.backups_judge.specs.Told.{bad_of, judged_of, is_end_good}

-- ── flag and padding ──

module _ (b : List ℕ) (behind n fl : ℕ) where
  pub wrong_flag : fl ≡ last_flag behind → (get_or b 7 0 ≡ fl → ⊥) → false ≡ is_end_good behind n b
  unfolding is_end_good flag
  wrong_flag e h = rw (ne_eqb (get_or b 7 0) (last_flag behind) (λ f. h (f ∙ sym e)))

  pub only_padding : (r : Bool) → fl ≡ last_flag behind → get_or b 7 0 ≡ fl → r ≡ all (eqb 0) (take (510 - (8 + n)) (drop (8 + n) b)) → r ≡ is_end_good behind n b
  unfolding is_end_good flag area
  only_padding r e h f =
      let m : 502 - n ≡ 510 - (8 + n) = omega arith in
      let t : drop n (take 502 (drop 8 b)) ≡ take (510 - (8 + n)) (drop (8 + n) b)
      = drop_take n 502 (drop 8 b) ∙ ap (λ k. take k (drop n (drop 8 b))) m ∙ ap (take (510 - (8 + n))) (drop-drop n 8 b) in
      f ∙ rw (eq-eqb (get_or b 7 0) (last_flag behind) (h ∙ e), t)

pub ruleset ends = (wrong_flag, only_padding, rules)

-- ── 44 ──

too_long : (behind n : ℕ) → 502 < n → is_length_good behind n ≡ false
unfolding is_length_good between
too_long zero n h = rw (le-leb 1 n (omega arith), lt-leb n 502 h)
too_long (suc m) n h = ne_eqb n 502 (λ e. omega arith)

module _ (b : List ℕ) (k behind sp m : ℕ) (said : m ≡ value_of (take 4 b)) where
  pub wrong_number : (m ≡ k → ⊥) → false ≡ is_good k behind sp b
  unfolding is_good number
  wrong_number h = rw (← said, ne_eqb m k h)

  module _ (here : m ≡ k) where
    right_number : eqb (number b) k ≡ true
    unfolding number
    right_number = rw (← said) (eq-eqb m k here)

    pub wrong_space : (q : ℕ) → q ≡ space b → (q ≡ sp → ⊥) → false ≡ is_good k behind sp b
    unfolding is_good
    wrong_space q e h = rw (right_number, ne_eqb (space b) sp (λ f. h (e ∙ f)))

    module _ (q : ℕ) (its : q ≡ space b) (same : q ≡ sp) (n : ℕ) (tells : n ≡ value_of (take 2 (drop 4 b))) where
      to_length : is_good k behind sp b ≡ (is_length_good behind n && is_end_good behind n b)
      unfolding is_good is_end_good used padding
      to_length = rw (right_number, eq-eqb (space b) sp (sym its ∙ same), ← tells)

      pub much_too_long : 502 < n → false ≡ is_good k behind sp b
      much_too_long h = sym (to_length ∙ rw (too_long behind n h))

      pub wrong_length : (r : Bool) → r ≡ is_length_good behind n → r ≡ false → false ≡ is_good k behind sp b
      wrong_length r e f = sym (to_length ∙ rw (← e, f))

      pub only_end : (r q : Bool) → r ≡ is_length_good behind n → r ≡ true → q ≡ is_end_good behind n b → q ≡ is_good k behind sp b
      only_end r q e f g = g ∙ sym (to_length ∙ rw (← e, f))

pub ruleset goods = (wrong_number, wrong_space, much_too_long, wrong_length, only_end, rules)

-- ── 43, then 44 ──

module _ (b : List ℕ) (k behind sp : ℕ) (r : Bool) (is_checked_law : r ≡ is_checked b) where
  pub unchecked_told : r ≡ false → bad_of (Err (refusal 43 k)) ≡ cause_of k behind sp b
  unfolding bad_of cause_of
  unchecked_told h = rw (← is_checked_law, h)

  module _ (h : r ≡ true) (q : Bool) (is_good_law : q ≡ is_good k behind sp b) where
    pub bad_told : q ≡ false → bad_of (Err (refusal 44 k)) ≡ cause_of k behind sp b
    unfolding bad_of cause_of
    bad_told g = rw (← is_checked_law, h, ← is_good_law, g)

    pub good_told : q ≡ true → bad_of (Ok tt) ≡ cause_of k behind sp b
    unfolding bad_of cause_of
    good_told g = rw (← is_checked_law, h, ← is_good_law, g)

pub ruleset causes = (unchecked_told, bad_told, good_told, rules)

-- ── any bytes ──

module _ (b : List ℕ) (k behind sp : ℕ) where
  pub no_block : (length b ≡ 512 → ⊥) → judged_of (Err (refusal 42 0)) ≡ judging k behind sp b
  unfolding judged_of bad_of judging
  no_block h = rw (ne_eqb (length b) 512 h)

  pub by_cause : (r : Result Unit Refusal) → length b ≡ 512 → bad_of r ≡ cause_of k behind sp b → judged_of r ≡ judging k behind sp b
  unfolding judged_of judging
  by_cause r h e = rw (eq-eqb (length b) 512 h, e)

pub ruleset judgings = (no_block, by_cause, rules)

-- ── one block behind the other ──

-- the blocks before position k are good
pub record Passing (b : List ℕ) (n sp k : ℕ) : Type 0 where
  pub size : length b ≡ 512 * n
  pub high : k ≤ n
  pub left : first_bad 0 n sp b ≡ first_bad k (n - k) sp (drop (512 * k) b)

pub none_passed : (b : List ℕ) (n sp : ℕ) → length b ≡ 512 * n → Passing b n sp 0
none_passed b n sp h = record { size = h; high = omega arith; left = let e : n ≡ n - 0 = omega arith in ap (λ m. first_bad 0 m sp b) e }

module _ {b : List ℕ} {n sp k : ℕ} (v : Passing b n sp k) where
  pub all_passed : n ≤ k → bad_of (Ok tt) ≡ first_bad 0 n sp b
  unfolding bad_of first_bad
  all_passed h = let e : n - k ≡ 0 = omega arith in sym (v.left ∙ rw e)

  module _ (h : k < n) where
    one_more : first_bad 0 n sp b ≡ (cause_of k (n - k - 1) sp (take (512 * k + 512 - 512 * k) (drop (512 * k) b)) or_else first_bad (k + 1) (n - k - 1) sp (drop (512 * (k + 1)) b))
    unfolding first_bad
    one_more =
        let e : n - k ≡ suc (n - k - 1) = omega arith in
        let f : 512 * k + 512 - 512 * k ≡ 512 = omega arith in
        let g : 512 * (k + 1) ≡ 512 * k + 512 = omega arith in
        v.left ∙ ap (λ m. first_bad k m sp (drop (512 * k) b)) e ∙ rw (f, g, ← drop-drop 512 (512 * k) b)

    module _ (r : Result Unit Refusal) (e : bad_of r ≡ cause_of k (n - k - 1) sp (take (512 * k + 512 - 512 * k) (drop (512 * k) b))) where
      pub bad_found : (f : Refusal) → r ≡ Err f → bad_of (Err f) ≡ first_bad 0 n sp b
      unfolding bad_of
      bad_found f g = sym (one_more ∙ rw (← e, g))

      pub one_passed : r ≡ Ok tt → Passing b n sp (k + 1)
      unfolding bad_of
      one_passed f =
          let m : n - (k + 1) ≡ n - k - 1 = omega arith in
          record { size = v.size; high = omega arith; left = one_more ∙ rw (← e, f, m) }

pub ruleset passing = (none_passed, all_passed, bad_found, one_passed, rules)
