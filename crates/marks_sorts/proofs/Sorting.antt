-- The sort of a piece by its first two bytes, one law for each way.
use mathlib.Core.Path.{◌≡◌, refl, sym, ◌∙◌}
use mathlib.Core.List.{List, [], ◌∷◌}
use mathlib.Core.Bool.{Bool, true, false, ◌&&◌}
use mathlib.Core.Logic.{⊎_elim}
use Prim.Native.Nat.{ℕ, ◌+◌, ◌<◌}
use native.Mathlib.Omega.{arith}
use borrow.Author.Rules.{rules}
use borrow.Author.Tests.{ne_eqb}
use lib.Dec.{eqb}
use lib.ListN.{length, drop, get_or, drop_of_length-le}
use Rattle.cdi.specs.Lists.{begins}
use Rattle.scan.proofs.Along.{drop_next, nothing_there}
use Rattle.scan.proofs.Tests.{lt_or_le}
use Rattle.marks_cuts.specs.Marks.{sort_at}

alone : (t : Bool) → (t && true) ≡ t
alone true = refl
alone false = refl

module _ (s : List ℕ) (at : ℕ) (h : at < length s) where
  one : (x : ℕ) → begins (x ∷ []) (drop at s) ≡ eqb x (get_or s at 0)
  unfolding begins
  one x = rw (drop_next s at h) (alone (eqb x (get_or s at 0)))

  -- past the end stands 0, which is no byte of a mark
  next : (x c : ℕ) → 0 < x → c ≡ get_or s (at + 1) 0 → begins (x ∷ []) (drop (at + 1) s) ≡ eqb x c
  unfolding begins
  next x c l e = ⊎_elim
      (λ k. rw (drop_next s (at + 1) k, ← e) (alone (eqb x c)))
      (λ k. let z : c ≡ 0 = e ∙ sym (nothing_there s (at + 1) k) in rw (drop_of_length-le s k) (sym (ne_eqb x c (λ q. omega arith))))
      (lt_or_le (at + 1) (length s))

  module _ {c : ℕ} (f : get_or s at 0 ≡ 60) (e : c ≡ get_or s (at + 1) 0) where
    two : (x : ℕ) → 0 < x → begins (60 ∷ x ∷ []) (drop at s) ≡ eqb x c
    unfolding begins
    two x l = rw (drop_next s at h, f) (next x c l e)

    pub ends : c ≡ 47 → 1 ≡ sort_at (drop at s)
    unfolding sort_at
    ends g = rw (one 60, f, two 47 (omega arith), g)

    module _ (g : c ≡ 47 → ⊥) where
      pub marks : c ≡ 33 → 3 ≡ sort_at (drop at s)
      unfolding sort_at
      marks k = rw (one 60, f, two 47 (omega arith), two 33 (omega arith), k)

      module _ (k : c ≡ 33 → ⊥) where
        pub instructs : c ≡ 63 → 3 ≡ sort_at (drop at s)
        unfolding sort_at
        instructs m = rw (one 60, f, two 47 (omega arith), two 33 (omega arith), two 63 (omega arith), m)

        pub starts : (c ≡ 63 → ⊥) → 0 ≡ sort_at (drop at s)
        unfolding sort_at
        starts m = rw (one 60, f, two 47 (omega arith), two 33 (omega arith), two 63 (omega arith), ne_eqb 47 c (λ z. g (sym z)), ne_eqb 33 c (λ z. k (sym z)), ne_eqb 63 c (λ z. m (sym z)))

  module _ (f : get_or s at 0 ≡ 60 → ⊥) where
    pub refers : get_or s at 0 ≡ 38 → 3 ≡ sort_at (drop at s)
    unfolding sort_at
    refers g = rw (one 60, one 38, g)

    pub runs : (get_or s at 0 ≡ 38 → ⊥) → 2 ≡ sort_at (drop at s)
    unfolding sort_at
    runs g = rw (one 60, one 38, ne_eqb 60 (get_or s at 0) (λ z. f (sym z)), ne_eqb 38 (get_or s at 0) (λ z. g (sym z)))

pub ruleset sorting = (ends, marks, instructs, starts, refers, runs, rules)
