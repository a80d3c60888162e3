-- Writing a record, as the code does it: rows whose length is a multiple of eight have room for the whole of it or for nothing of it.
use mathlib.Core.Path.{◌≡◌, refl, sym, ap, ◌∙◌}
use mathlib.Core.List.{List, [], ◌∷◌}
use Prim.Native.Nat.{ℕ, zero, suc, ◌+◌, ◌*◌, ◌%◌, ◌^◌, ◌≤◌, ◌<◌}
use native.Mathlib.Omega.{arith}
use native.Mathlib.Decide.{dec_lt}
use borrow.Author.Rules.{rules}
use borrow.Author.Tests.{lt-ltb, le-ltb}
use lib.IntN.{ℤ, pos, ◌-ℤ◌}
use lib.ListN.{length, set}
use lib.Seq.{sets, set_out, length-sets}
use mir.Syntax.{w64}
use mir.Val.{SFits, to_z}
use mir.ValLaws.{to_z_pos}
use Rattle.extent.specs.Reach.{Small}
use Rattle.extent.specs.declared.Extent.{Extent}
use Rattle.extent.proofs.Signed.{read, read_is}
use Rattle.tally_tag.specs.Tallying.{change_of}
use Rattle.tallies_records.specs.Fields.{fields_of}

-- ── beyond the end ──

-- Numbers that stand behind the end of a list aren't written.
pub sets_out : {A : Type 0} (t : List A) (k : ℕ) (xs : List A) → length t ≤ k → sets t k xs ≡ t
sets_out t k [] h = refl
sets_out t k (x ∷ xs) h = ap (λ (u : List _). sets u (suc k) xs) (set_out t k x h) ∙ sets_out t (suc k) xs (omega arith)

-- ── the change ──

-- a difference of two numbers that aren't large
difference_fits : (a b : ℕ) → a ≤ 2 ^ 32 + 1 → b ≤ 2 ^ 32 + 1 → SFits w64 (pos a -ℤ pos b)
difference_fits a zero h k = record { sfits = omega arith }
difference_fits a (suc b) h k = by (dec_lt a (suc b))
  where
    by : Dec (a < suc b) → SFits w64 (pos a -ℤ pos (suc b))
    by (yes l) = rw (lt-ltb a (suc b) l) (record { sfits = omega arith })
    by (no l) = rw (le-ltb a (suc b) (omega arith)) (record { sfits = omega arith })

module _ (e : Extent) (h : Small e) where
  cast : to_z w64 e.ends -ℤ to_z w64 e.below ≡ pos e.ends -ℤ pos e.below
  cast = rw (to_z_pos w64 e.ends (omega (arith, h.finish, h.spans)), to_z_pos w64 e.below (omega (arith, h.start, h.spans)))

  pub change_fits : SFits w64 (to_z w64 e.ends -ℤ to_z w64 e.below)
  change_fits = rw cast (difference_fits e.ends e.below (omega (arith, h.finish, h.spans)) (omega (arith, h.start, h.spans)))

  change_is : read (to_z w64 e.ends -ℤ to_z w64 e.below) ≡ change_of e
  unfolding change_of
  change_is = read_is _ change_fits ∙ cast

-- ── eight numbers ──

-- one after another from a place on
abbrev eight : List ℤ → ℕ → ℤ → ℤ → ℤ → ℤ → ℤ → ℤ → ℤ → ℤ → List ℤ
eight t i a b c d e f g h = set (set (set (set (set (set (set (set t i a) (i + 1) b) (i + 2) c) (i + 3) d) (i + 4) e) (i + 5) f) (i + 6) g) (i + 7) h

eight_is : (t : List ℤ) (i : ℕ) (a b c d e f g h : ℤ) → eight t i a b c d e f g h ≡ sets t i (a ∷ b ∷ c ∷ d ∷ e ∷ f ∷ g ∷ h ∷ [])
eight_is t i a b c d e f g h =
    let one : i + 1 ≡ suc i = omega arith in
    let two : i + 2 ≡ suc (suc i) = omega arith in
    let three : i + 3 ≡ suc (suc (suc i)) = omega arith in
    let four : i + 4 ≡ suc (suc (suc (suc i))) = omega arith in
    let five : i + 5 ≡ suc (suc (suc (suc (suc i)))) = omega arith in
    let six : i + 6 ≡ suc (suc (suc (suc (suc (suc i))))) = omega arith in
    let seven : i + 7 ≡ suc (suc (suc (suc (suc (suc (suc i)))))) = omega arith in
    rw (one, two, three, four, five, six, seven)

pub length_eight : (t : List ℤ) (i : ℕ) (a b c d e f g h : ℤ) → length (eight t i a b c d e f g h) ≡ length t
length_eight t i a b c d e f g h = rw (eight_is t i a b c d e f g h) (length-sets t i (a ∷ b ∷ c ∷ d ∷ e ∷ f ∷ g ∷ h ∷ []))

module _ (t : List ℤ) (i k p : ℕ) (a : ℤ) (w c n : ℕ) (e : Extent) where
  pub put_is : k < 2 ^ 63 → p < 2 ^ 63 → SFits w64 a → w < 2 ^ 63 → c < 2 ^ 63 → n < 2 ^ 63 → Small e
      → eight t i (to_z w64 k) (to_z w64 p) (read a) (to_z w64 w) (to_z w64 c) (to_z w64 n) (to_z w64 e.count) (read (to_z w64 e.ends -ℤ to_z w64 e.below))
      ≡ sets t i (fields_of k p a w c n e)
  unfolding fields_of
  put_is lk lp f lw lc ln h =
      rw (to_z_pos w64 k lk, to_z_pos w64 p lp, read_is a f, to_z_pos w64 w lw, to_z_pos w64 c lc, to_z_pos w64 n ln, to_z_pos w64 e.count (omega (arith, h.counts)), change_is e h)
      (eight_is t i (pos k) (pos p) a (pos w) (pos c) (pos n) (pos e.count) (change_of e))

  -- a callee reads the address
  pub put_read : {u : List ℤ} → u ≡ sets t i (fields_of k p (read a) w c n e) → SFits w64 a → u ≡ sets t i (fields_of k p a w c n e)
  put_read q f = q ∙ ap (λ (z : ℤ). sets t i (fields_of k p z w c n e)) (read_is a f)

  -- A record without room is not written.
  pub no_room : length t % 8 ≡ 0 → length t < i * 8 + 8 → t ≡ sets t (i * 8) (fields_of k p a w c n e)
  no_room m l = sym (sets_out t (i * 8) (fields_of k p a w c n e) (omega arith))

pub ruleset writing = (change_fits, length_eight, put_is, rules)
