-- What a text says as a number, by each way through the code.
use mathlib.Core.Path.{◌≡◌, refl, sym, ap, ◌∙◌}
use mathlib.Core.List.{List}
use mathlib.Core.Bool.{Bool, true, false, cond, ◌&&◌, ◌||◌}
use mathlib.Core.Option.{Option, none, some}
use Prim.Native.Nat.{ℕ, suc, ◌-◌, ◌^◌, ◌<◌, ◌≤◌}
use native.Mathlib.Omega.{arith}
use borrow.Author.Rules.{rules}
use borrow.Author.Tests.{ltb-true, ltb-false, le-ltb, le-leb, lt-leb}
use lib.Dec.{leb, ltb}
use lib.IntN.{ℤ, pos, negsuc}
use Rattle.std.specs.Prelude as std
use Rattle.std.specs.Prelude.{Some, None}
use Rattle.cdi.specs.Numbers.{number, within, bounded}
use Rattle.cdi.proofs.Quiet.{impossible}
use Rattle.numbers.specs.Held.{held, signed_of, number_of}
use Rattle.numbers.specs.declared.Signed.{Signed}
use Rattle.rules_judge.specs.declared.Said.{Said}
use Rattle.rules_judge.specs.declared.Said.TheVariants.{No, Large, Value}
use Rattle.rules_judge.specs.Judging.{as_whole, said_by}
use Rattle.judges_state.specs.Decoded.{said_of}

-- what a number that was read says: it is out of range where it is large, or negative and beyond -2^63
heard : Signed → Said
heard n = cond (n.large || (n.negative && ltb (2 ^ 63) n.magnitude)) Large (Value (record { negative = n.negative; magnitude = n.magnitude }))

said_is : (z : ℤ) → said_by (some z) ≡ heard (signed_of z)
unfolding said_by heard signed_of held bounded within as_whole
said_is (pos m) = by (ltb m (2 ^ 64)) refl
  where
    by : (t : Bool) → ltb m (2 ^ 64) ≡ t → cond (leb m (2 ^ 64 - 1)) (Value (record { negative = ltb m 0; magnitude = m })) Large
        ≡ heard (cond t (record { negative = false; magnitude = m; large = false }) (record { negative = false; magnitude = 0; large = true }))
    by true e = let g : m < 2 ^ 64 = ltb-true m (2 ^ 64) e in rw (le-leb m (2 ^ 64 - 1) (omega (arith, g)), le-ltb m 0 (omega arith))
    by false e = let g : 2 ^ 64 ≤ m = ltb-false m (2 ^ 64) e in rw (lt-leb m (2 ^ 64 - 1) (omega (arith, g)))
said_is (negsuc m) = by (ltb (suc m) (2 ^ 64)) refl (ltb (2 ^ 63) (suc m)) refl
  where
    by : (t : Bool) → ltb (suc m) (2 ^ 64) ≡ t → (u : Bool) → ltb (2 ^ 63) (suc m) ≡ u → cond (leb m (2 ^ 63 - 1) && true) (Value (record { negative = true; magnitude = suc m })) Large
        ≡ heard (cond t (record { negative = true; magnitude = suc m; large = false }) (record { negative = true; magnitude = 0; large = true }))
    by true e true f = let g : 2 ^ 63 < suc m = ltb-true (2 ^ 63) (suc m) f in rw (lt-leb m (2 ^ 63 - 1) (omega (arith, g)), f)
    by true e false f = let g : suc m ≤ 2 ^ 63 = ltb-false (2 ^ 63) (suc m) f in rw (le-leb m (2 ^ 63 - 1) (omega (arith, g)), f)
    by false e u f = let g : 2 ^ 64 ≤ suc m = ltb-false (suc m) (2 ^ 64) e in rw (lt-leb m (2 ^ 63 - 1) (omega (arith, g)))

is_no : (o : Option ℤ) → None ≡ number_of o → No ≡ said_by o
unfolding number_of said_by
is_no none e = refl
is_no (some z) e = impossible (cc)

is_heard : (o : Option ℤ) {n : Signed} → Some n ≡ number_of o → heard n ≡ said_by o
unfolding number_of
is_heard none e = impossible (cc)
is_heard (some z) {n} e = let q : n ≡ signed_of z = cc in ap heard q ∙ sym (said_is z)

module _ (v : List ℕ) {q : std.Option Signed} (e : q ≡ number_of (number v)) where
  pub says_no : q ≡ None → said_of 1 0 ≡ said_by (number v)
  unfolding said_of
  says_no f = is_no (number v) (sym f ∙ e)

  module _ {n : Signed} (f : q ≡ Some n) where
    pub says_beyond : (n.large || (n.negative && ltb 0x8000_0000_0000_0000 n.magnitude)) ≡ true → said_of 2 0 ≡ said_by (number v)
    unfolding said_of heard
    says_beyond g = sym (rw g) ∙ is_heard (number v) (sym f ∙ e)

    module _ (g : (n.large || (n.negative && ltb 0x8000_0000_0000_0000 n.magnitude)) ≡ false) where
      pub says_negative : n.negative ≡ true → said_of 4 n.magnitude ≡ said_by (number v)
      unfolding said_of heard
      says_negative h = sym (rw (g, h)) ∙ is_heard (number v) (sym f ∙ e)

      pub says_plain : n.negative ≡ false → said_of 3 n.magnitude ≡ said_by (number v)
      unfolding said_of heard
      says_plain h = sym (rw (g, h)) ∙ is_heard (number v) (sym f ∙ e)

pub ruleset saying = (says_no, says_beyond, says_negative, says_plain, rules)
