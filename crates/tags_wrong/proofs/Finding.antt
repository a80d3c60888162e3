-- The first wrong attribute: each way through the loop.
use mathlib.Core.Path.{◌≡◌, refl, sym, ap, ◌∙◌}
use mathlib.Core.List.{List, ◌∷◌}
use mathlib.Core.Bool.{Bool, true, false, ◌||◌}
use mathlib.Core.Option.{none, some}
use mathlib.Core.Logic.{◌⊎◌, inl, inr, ⊎_elim}
use Prim.Native.Nat.{ℕ, ◌+◌, ◌≤◌, ◌<◌}
use native.Mathlib.Omega.{arith}
use borrow.Author.Rules.{rules}
use borrow.Author.Tests.{eq-eqb, ne_eqb}
use lib.ListN.{length, drop, get_or}
use Rattle.cdi.specs.Faults.{Fault, fault, lesser, least}
use Rattle.cdi.specs.Pieces.{Attribute, attributes, bears, twice}
use Rattle.cdi.specs.Lists.{any}
use Rattle.cdi.specs.Rules.{name_faults, names_faults}
use Rattle.cdi.proofs.Least.{least_append}
use Rattle.cdi.proofs.Named.{attributes_behind, names_silent}
use Rattle.cdi.proofs.Quiet.{impossible}
use Rattle.cdi.proofs.Tests.{neither_left, neither_right}
use Rattle.scan.proofs.Tests.{eq_or_ne}
use Rattle.keys.specs.Keys.{fault_in}
use Rattle.keys.proofs.Keying.{no_fault}
use Rattle.names.specs.Names.{attribute_number}
use Rattle.names.proofs.Positions.{attribute_high}
use Rattle.pieces_cuts.specs.Places.{part, attribute_of, attribute_from, Next}
use Rattle.pieces_cuts.specs.declared.places.Attribute.{Attribute as Places}
use Rattle.pieces_attributes.proofs.Walking.{none_left, one_more, less}
use Rattle.rules_judge.specs.Judging.{row_at}
use Rattle.rules_judge.specs.Tables.{rule_at, is_one_of}
use Rattle.rules_judge.specs.Tables as T
use Rattle.tags_values.specs.Codes.{code_of, code_in, numbered}
use Rattle.tags_values.proofs.Numbered.{front_code, behind_code}
use Rattle.tags_faults.specs.Told.{known_set, has_bit, Coded, faults_at}
use Rattle.tags_faults.proofs.Ruled.{bit_known}
use Rattle.tags_wrong.specs.Named.{name_by}
use Rattle.tags_wrong.proofs.Naming.{other_none, name_told, in_there}

-- ── codes from a place on ──

-- an attribute that is still to come has the code that is noted
pub record Holds (codes : List ℕ) (xs : List Attribute) : Type 0 where
  pub each : (b : ℕ) → 1 ≤ b → b ≤ 10 → (numbered b xs ≡ none) ⊎ (get_or codes b 0 ≡ code_in b xs)

module _ {codes : List ℕ} (x : Attribute) (xs : List Attribute) (h : Holds codes (x ∷ xs)) where
  code_here : 1 ≤ attribute_number x.name → get_or codes (attribute_number x.name) 0 ≡ code_of (attribute_number x.name) x.value
  unfolding numbered
  code_here l = ⊎_elim
      (λ z. impossible (let y : some x.value ≡ none = rw (eq-eqb (attribute_number x.name) (attribute_number x.name) refl) at z in cc))
      (λ z. z ∙ front_code x xs (attribute_number x.name) refl)
      (h.each (attribute_number x.name) l (attribute_high x.name))

  behind_none : (b : ℕ) → (attribute_number x.name ≡ b → ⊥) → numbered b (x ∷ xs) ≡ none → numbered b xs ≡ none
  unfolding numbered
  behind_none b q z = rw (ne_eqb _ _ q) at z

  holds_next : any (bears x.name) xs ≡ false → Holds codes xs
  holds_next d = record {
    each = λ b l k. ⊎_elim
        (λ (q : attribute_number x.name ≡ b). inl (other_none x b xs q l d))
        (λ (q : attribute_number x.name ≡ b → ⊥). ⊎_elim (λ z. inl (behind_none b q z)) (λ z. inr (z ∙ behind_code x xs b q)) (h.each b l k))
        (eq_or_ne (attribute_number x.name) b);
  }

-- ── one after another ──

-- the faults at names from i on are those from a place on; the set is that of the attributes that the element knows
pub record Seeking (s : List ℕ) (at e set : ℕ) (codes : List ℕ) (i : ℕ) : Type 0 where
  pub knows : set ≡ known_set e
  pub left : least (names_faults (row_at e).attributes (attributes at 0 (drop at s))) ≡ least (names_faults (row_at e).attributes (attributes i 0 (drop i s)))
  pub holds : Holds codes (attributes i 0 (drop i s))
  pub once : twice (attributes i 0 (drop i s)) ≡ false
  pub high : i ≤ length s

pub seek : (s : List ℕ) (at e : ℕ) {set : ℕ} {codes : List ℕ} → set ≡ known_set e → at ≤ length s → Coded codes (attributes at 0 (drop at s)) → twice (attributes at 0 (drop at s)) ≡ false
    → Seeking s at e set codes at
seek s at e q h w d = record { knows = q; left = refl; holds = record { each = λ b l k. inr (w.each b l k) }; once = d; high = h }

pub still_inside : {s : List ℕ} {at e set i : ℕ} {codes : List ℕ} → Seeking s at e set codes i → i ≤ length s
still_inside w = w.high

pub number_high : (name : List ℕ) {n : ℕ} → n ≡ attribute_number name → n ≤ 10
number_high name k = omega (arith, k, attribute_high name)

pub index_high : (name : List ℕ) {n k : ℕ} → n ≡ attribute_number name → k ≡ n → k < 11
index_high name p q = omega (arith, p, q, attribute_high name)

pub name_high : {s : List ℕ} {i : ℕ} {a : Places} → length s ≤ 65535 → Next s i a → a.name ≤ 65535
name_high l v = let o = v.ordered in omega (arith, l, o.behind, o.value, o.close, o.end, o.high)

pub none_found : {s : List ℕ} {at e set i : ℕ} {codes : List ℕ} → Seeking s at e set codes i → attribute_from (drop i s) ≡ none
    → fault_in 0xFFFF_FFFF_FFFF_FFFF ≡ least (names_faults (row_at e).attributes (attributes at 0 (drop at s)))
unfolding names_faults least
none_found {s} {at} {e} {set} {i} w n = no_fault 0xFFFF_FFFF_FFFF_FFFF refl ∙ sym (w.left ∙ rw (none_left s i n))

module _ {s : List ℕ} {at e set i : ℕ} {codes : List ℕ} {a : Places} (w : Seeking s at e set codes i) (v : Next s i a) where
  module _ (z : a.end ≡ i → ⊥) {n k : ℕ} {t : Bool} (p : n ≡ attribute_number (part s a.name a.behind)) (q : k ≡ n) (h : t ≡ has_bit set n) where
    abbrev xs : List Attribute
    xs = attributes a.end 0 (drop a.end s)

    known_is : t ≡ is_one_of (T.attribute_of (rule_at e 0)) (T.attribute_of (rule_at e 1)) (T.attribute_of (rule_at e 2)) n
    known_is = bit_known e (number_high _ p) w.knows h

    held : Holds codes (attribute_of s a ∷ xs)
    held = rw (one_more v z) at w.holds

    apart : (any (bears (part s a.name a.behind)) xs || twice xs) ≡ false
    unfolding twice
    apart = rw (one_more v z) at w.once

    code_is : t ≡ true → get_or codes k 0 ≡ code_of n (part s a.value a.close)
    code_is y = rw (q, p) (code_here (attribute_of s a) xs held (rw p at (in_there e n (sym known_is ∙ y))))

    name_by_law : name_by t (get_or codes k 0) ≡ name_by t (code_of n (part s a.value a.close))
    name_by_law = by t refl
      where
        by : (u : Bool) → t ≡ u → name_by u (get_or codes k 0) ≡ name_by u (code_of n (part s a.value a.close))
        by false y = unfold name_by in refl
        by true y = ap (name_by true) (code_is y)

    module _ {m : ℕ} (f : m ≡ name_by t (get_or codes k 0)) where
      name_is : name_faults (row_at e).attributes (attribute_of s a) ≡ faults_at a.name m
      name_is = name_told (attribute_of s a) e p known_is ∙ ap (faults_at a.name) (sym (f ∙ name_by_law))

      nearer : a.name + 1 ≤ a.end
      nearer = let o = v.ordered in omega (arith, o.behind, o.value, o.close, v.last z)

      abbrev rest : List Fault
      rest = names_faults (row_at e).attributes xs

      onward : least (names_faults (row_at e).attributes (attributes at 0 (drop at s))) ≡ lesser (least (faults_at a.name m)) (least rest)
      unfolding names_faults
      onward = w.left ∙ rw (one_more v z, name_is) (least_append (faults_at a.name m) rest)

      -- the one here stands before the others
      pub found : {l : ℕ} (r : ℕ) → (m ≡ 0 → ⊥) → l ≡ m → fault_in r ≡ some (fault l a.name) → fault_in r ≡ least (names_faults (row_at e).attributes (attributes at 0 (drop at s)))
      unfolding faults_at least lesser
      found r y u g = g ∙ rw u (sym (onward ∙ rw (ne_eqb m 0 y) (names_silent m a.name (row_at e).attributes xs (attributes_behind (a.name + 1) a.end 0 (drop a.end s) nearer))))

      pub passed : m ≡ 0 → Seeking s at e set codes a.end
      unfolding faults_at least lesser
      passed y = record {
        knows = w.knows;
        left = onward ∙ rw y;
        holds = holds_next (attribute_of s a) xs held (neither_left (any (bears (part s a.name a.behind)) xs) (twice xs) apart);
        once = neither_right (any (bears (part s a.name a.behind)) xs) (twice xs) apart;
        high = v.ordered.high;
      }

pub ruleset seeking = (seek, still_inside, number_high, index_high, name_high, none_found, found, passed, less, rules)
