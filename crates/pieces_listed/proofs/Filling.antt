-- A table that is filled with the names of a tag's attributes.
use mathlib.Core.Path.{◌≡◌, refl, sym, ◌∙◌}
use mathlib.Core.List.{List}
use mathlib.Core.Bool.{Bool, true, false, ◌||◌}
use mathlib.Core.Option.{none}
use mathlib.Core.Logic.{◌⊎◌, inl, inr, ⊎_elim}
use Prim.Native.Nat.{ℕ, ◌+◌, ◌≤◌, ◌<◌}
use native.Mathlib.Omega.{arith}
use borrow.Author.Rules.{rules}
use lib.ListN.{length, drop, get_or, set}
use lib.Seq.{get_or-set_same, get_or-set_other}
use Rattle.cdi.specs.Lists.{any, same}
use Rattle.cdi.specs.Pieces.{attributes, bears, twice}
use Rattle.cdi.proofs.Quiet.{impossible, same_equal}
use Rattle.pieces_cuts.specs.Places.{part, attribute_from, Next}
use Rattle.pieces_cuts.specs.declared.places.Attribute.{Attribute as Places}
use Rattle.pieces_attributes.proofs.Walking.{none_left, one_more, less as nearer}
use Rattle.pieces_attributes.specs.Answers.{Shows}
use Rattle.pieces_order.specs.Orders.{named, Numbers}
use Rattle.pieces_listed.specs.Tables.{Twins, Holds}

-- one of the first n names stands again from i on
pub record Again (s names : List ℕ) (n i : ℕ) : Type 0 where
  pub index : ℕ
  pub low : index < n
  pub there : any (bears (named s (get_or names index 0))) (attributes i 0 (drop i s)) ≡ true

-- where a name twice may be: twice in the table, in the table and from i on, or twice from i on
abbrev pub Where : List ℕ → List ℕ → ℕ → ℕ → Type 0
Where s names n i = Twins s names n ⊎ (Again s names n i ⊎ (twice (attributes i 0 (drop i s)) ≡ true))

-- the table has n names of the attributes before i
pub record Filling (s : List ℕ) (at : ℕ) (names : List ℕ) (n i : ℕ) : Type 0 where
  pub back : twice (attributes at 0 (drop at s)) ≡ true → Where s names n i
  pub high : i ≤ length s

pub fill_start : (s : List ℕ) (at : ℕ) (names : List ℕ) → at ≤ length s → Filling s at names 0 at
fill_start s at names h = record { back = λ t. inr (inr t); high = h }

-- a full table says nothing
pub full : (s : List ℕ) (at : ℕ) (names : List ℕ) → Holds s at names (length names)
full s at names = record { twins = λ h. absurd (omega arith) }

-- a name more in the table
module _ (s names : List ℕ) (n x : ℕ) (h : n < length names) where
  kept : (j : ℕ) → j < n → get_or (set names n x) j 0 ≡ get_or names j 0
  kept j k = get_or-set_other names n j x 0 (λ e. omega arith)

  still_twins : Twins s names n → Twins s (set names n x) (n + 1)
  still_twins t = record {
    first = t.first;
    second = t.second;
    apart = t.apart;
    low = omega (arith, t.low);
    same = rw (kept t.first (omega (arith, t.apart, t.low)), kept t.second t.low) t.same;
  }

  new_twins : (j : ℕ) → j < n → named s (get_or names j 0) ≡ named s x → Twins s (set names n x) (n + 1)
  new_twins j k e = record {
    first = j;
    second = n;
    apart = k;
    low = omega arith;
    same = rw (kept j k, get_or-set_same names n x 0 h) e;
  }

pub filled : (s : List ℕ) (at : ℕ) (names : List ℕ) (n i : ℕ) → Filling s at names n i → attribute_from (drop i s) ≡ none → Holds s at names n
unfolding twice any
filled s at names n i w e = record { twins = λ h t. ⊎_elim (λ x. x) (λ x. ⊎_elim (λ y. nothing y.index y.there) (λ y. impossible (let z : false ≡ true = rw (none_left s i e) at y in cc)) x) (w.back t) }
  where
    nothing : (j : ℕ) → any (bears (named s (get_or names j 0))) (attributes i 0 (drop i s)) ≡ true → Twins s names n
    nothing j q = impossible (let z : false ≡ true = rw (none_left s i e) at q in cc)

module _ {s : List ℕ} {at : ℕ} {names : List ℕ} {n i : ℕ} {a : Places} (w : Filling s at names n i) (v : Next s i a) where
  module _ (e : a.end ≡ i → ⊥) (x : ℕ) {r : Bool} (h : n < length names) (k : Shows r (Numbers x a.name a.behind)) (t : r ≡ true) where
    this : named s x ≡ part s a.name a.behind
    this = rw ((k.is t).begins, (k.is t).ends)

    more : Where s names n i → Where s (set names n x) (n + 1) a.end
    unfolding twice any bears
    more (inl t) = inl (still_twins s names n x h t)
    more (inr (inl y)) = either (same (named s (get_or names y.index 0)) (part s a.name a.behind)) refl (rw (one_more v e) at y.there)
      where
        either : (t : Bool) → same (named s (get_or names y.index 0)) (part s a.name a.behind) ≡ t
            → (t || any (bears (named s (get_or names y.index 0))) (attributes a.end 0 (drop a.end s))) ≡ true → Where s (set names n x) (n + 1) a.end
        either true k m = inl (new_twins s names n x h y.index y.low (same_equal _ _ k ∙ sym this))
        either false k m = inr (inl (record { index = y.index; low = omega (arith, y.low); there = rw (kept s names n x h y.index y.low) m }))
    more (inr (inr t)) = either (any (bears (part s a.name a.behind)) (attributes a.end 0 (drop a.end s))) refl (rw (one_more v e) at t)
      where
        either : (t : Bool) → any (bears (part s a.name a.behind)) (attributes a.end 0 (drop a.end s)) ≡ t → (t || twice (attributes a.end 0 (drop a.end s))) ≡ true
            → Where s (set names n x) (n + 1) a.end
        either true k m = inr (inl (record { index = n; low = omega arith; there = rw (get_or-set_same names n x 0 h, this) k }))
        either false k m = inr (inr m)

    pub fill_more : Filling s at (set names n x) (n + 1) a.end
    fill_more = record { back = λ t. more (w.back t); high = v.ordered.high }

pub ruleset fill_loop = (fill_start, full, filled, fill_more, nearer, rules)
