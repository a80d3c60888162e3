-- The causes as plain answers, and the first of them.
use mathlib.Core.Path.{◌≡◌, refl, sym, ap, ◌∙◌}
use mathlib.Core.List.{List, [], ◌∷◌}
use mathlib.Core.Bool.{Bool, true, false, not, ◌||◌}
use Prim.Native.Nat.{ℕ, ◌+◌, ◌-◌, ◌≤◌, ◌<◌}
use native.Mathlib.Decide.{dec_le}
use native.Mathlib.Omega.{arith}
use borrow.Author.Rules.{rules}
use borrow.Author.Tests.{eq-eqb, ne_eqb, eqb-true, eqb-false, le-leb, lt-leb}
use lib.Dec.{eqb, leb, ltb}
use Rattle.std.specs.Prelude.{Option}
use Rattle.std.specs.List.{list_any}
use lib.IntN.{pos}
use lib.ListN.{length}
use Rattle.cdi.specs.Lists.{ascii, given, any}
use Rattle.cdi.specs.Text.{is_utf8}
use Rattle.cdi.specs.Numbers.{within}
use Rattle.cdi.specs.Rules.{bounds_of}
use Rattle.cdi.specs.Table.{same_number}
use Rattle.cdi.specs.Plans.{size_fits, one_of}
use Rattle.cdi.specs.Values.{with_sign}
use Rattle.cdi.specs.Access as A
use Rattle.cdi.specs.Access.{Window, Value, integer, event, string, child_of, properties, has_map, kind_of_value, in_bounds, is_good_text, equals, is_admitted, is_inside, is_float, is_mapped_event, first_cause, write_causes, read_causes}
use Rattle.cdi.proofs.Quiet.{impossible}
use Rattle.children.specs.Siblings.{Inside}
use Rattle.maps.specs.Matches.{wanted_of}
use Rattle.maps.specs.declared.Wanted.{Wanted}
use Rattle.maps.specs.declared.Wanted.TheVariants.{Number, Event, Text}
use Rattle.settings.specs.Contents.{content_in}
use Rattle.access_kinds.specs.Told.{setting_is, Good, window_of, inside_by, Bounded, Decides, read_cause}
use Rattle.access_order.specs.Told.{first_of, cause_of}
use Rattle.access_kinds.specs.declared.Setting.{Setting}
use Rattle.access_order.proofs.Ordering.{ordered, later}

-- ── a good setting ──

pub good_inside : {c : List ℕ} {s : Setting} → Good c s → Inside c s.part
good_inside g = g.inside

one_of_law : (n : ℕ) → one_of (1 ∷ 2 ∷ 4 ∷ 8 ∷ []) (pos n) ≡ true → (1 ≤ n) × (n ≤ 8)
unfolding one_of any same_number
one_of_law n h = by (eqb n 1) refl (eqb n 2) refl (eqb n 4) refl (eqb n 8) refl h
  where
    by : (a : Bool) → eqb n 1 ≡ a → (b : Bool) → eqb n 2 ≡ b → (d : Bool) → eqb n 4 ≡ d → (e : Bool) → eqb n 8 ≡ e
        → (a || (b || (d || (e || false)))) ≡ true → (1 ≤ n) × (n ≤ 8)
    by true x b y d z e w h = let q = eqb-true n 1 x in (omega arith, omega arith)
    by false x true y d z e w h = let q = eqb-true n 2 y in (omega arith, omega arith)
    by false x false y true z e w h = let q = eqb-true n 4 z in (omega arith, omega arith)
    by false x false y false z true w h = let q = eqb-true n 8 w in (omega arith, omega arith)
    by false x false y false z false w h = impossible (cc)

module _ {c : List ℕ} {s : Setting} (g : Good c s) where
  int_sizes : s.kind ≡ 3 → (1 ≤ s.size) × (s.size ≤ 8)
  unfolding setting_is size_fits
  int_sizes e = one_of_law s.size (rw e at g.fits.sized)

  pub int_least : s.kind ≡ 3 → 1 ≤ s.size
  int_least e = (int_sizes e).0

  pub int_most : s.kind ≡ 3 → s.size ≤ 8
  int_most e = (int_sizes e).1

-- ── 27 ──

module _ (c : List ℕ) (s : Setting) where
  pub withheld_float : s.kind ≡ 6 → eqb s.kind 6 ≡ (is_float (setting_is c s) || is_mapped_event (setting_is c s))
  unfolding is_float setting_is
  withheld_float e = eq-eqb _ _ e ∙ sym (rw (eq-eqb _ _ e))

  module _ (h : s.kind ≡ 6 → ⊥) where
    pub withheld_event : s.kind ≡ 5 → {r : Bool} → r ≡ has_map (content_in c s.part) → r ≡ (is_float (setting_is c s) || is_mapped_event (setting_is c s))
    unfolding is_float is_mapped_event setting_is
    withheld_event e q = q ∙ sym (rw (ne_eqb _ _ h, eq-eqb _ _ e))

    pub withheld_not : (s.kind ≡ 5 → ⊥) → eqb s.kind 5 ≡ (is_float (setting_is c s) || is_mapped_event (setting_is c s))
    unfolding is_float is_mapped_event setting_is
    withheld_not e = ne_eqb _ _ e ∙ sym (rw (ne_eqb _ _ h, ne_eqb _ _ e))

pub ruleset withholding = (withheld_float, withheld_event, withheld_not, good_inside, rules)

-- ── 22 and 23 ──

module _ {v : Wanted} (t : List ℕ) where
  pub kind_number : {b : Bool} {m : ℕ} → v ≡ Number b m → 3 ≡ kind_of_value (wanted_of v t)
  unfolding kind_of_value wanted_of
  kind_number e = sym (rw e)

  pub kind_event : {x : ℕ} → v ≡ Event x → 5 ≡ kind_of_value (wanted_of v t)
  unfolding kind_of_value wanted_of
  kind_event e = sym (rw e)

  pub kind_text : v ≡ Text → 4 ≡ kind_of_value (wanted_of v t)
  unfolding kind_of_value wanted_of
  kind_text e = sym (rw e)

  module _ (c : List ℕ) (s : Setting) where
    pub bounded_event : {x : ℕ} → v ≡ Event x → Bounded (setting_is c s) (wanted_of v t) true
    unfolding Bounded wanted_of in_bounds
    bounded_event e k = sym (rw e)

    pub bounded_text : v ≡ Text → Bounded (setting_is c s) (wanted_of v t) true
    unfolding Bounded wanted_of in_bounds
    bounded_text e k = sym (rw e)

    module _ {b : Bool} {m : ℕ} (e : v ≡ Number b m) where
      pub bounded_other : (s.kind ≡ 3 → ⊥) → Bounded (setting_is c s) (wanted_of v t) true
      unfolding Bounded wanted_of kind_of_value setting_is
      bounded_other h k = absurd (h (sym (rw e at k)))

      pub bounded_int : {r : Bool} → r ≡ within (bounds_of s.size (content_in c s.part)).min (bounds_of s.size (content_in c s.part)).max (with_sign b m)
          → Bounded (setting_is c s) (wanted_of v t) r
      unfolding Bounded wanted_of in_bounds setting_is
      bounded_int q k = q ∙ sym (rw e)

pub ruleset kinds = (kind_number, kind_event, kind_text, rules)

pub ruleset bounding = (bounded_event, bounded_text, bounded_other, bounded_int, good_inside, int_least, int_most, rules)

-- ── 25 ──

zero_any : (s : List ℕ) → list_any (λ b. eqb b 0) s ≡ any (eqb 0) s
unfolding any
zero_any [] = refl
zero_any (b ∷ s) = by (eqb b 0) refl (zero_any s)
  where
    by : (x : Bool) → eqb b 0 ≡ x → list_any (λ b. eqb b 0) s ≡ any (eqb 0) s → (x || list_any (λ b. eqb b 0) s) ≡ (eqb 0 b || any (eqb 0) s)
    by true e f = sym (rw (eq-eqb 0 b (sym (eqb-true b 0 e))))
    by false e f = f ∙ sym (rw (ne_eqb 0 b (λ z. eqb-false b 0 e (sym z))))

pub some_zero : (s : List ℕ) {r : Bool} → r ≡ list_any (λ b. eqb b 0) s → r ≡ any (eqb 0) s
some_zero s e = e ∙ zero_any s

module _ (s : Setting) {v : Wanted} (t : List ℕ) where
  pub good_event : {x : ℕ} → v ≡ Event x → true ≡ is_good_text (setting_is [] s) (wanted_of v t)
  unfolding is_good_text wanted_of
  good_event e = sym (rw e)

  pub good_number : {b : Bool} {m : ℕ} → v ≡ Number b m → true ≡ is_good_text (setting_is [] s) (wanted_of v t)
  unfolding is_good_text wanted_of
  good_number e = sym (rw e)

  module _ (e : v ≡ Text) {x : Bool} (p : x ≡ any (eqb 0) t) where
    pub text_zero : x ≡ true → false ≡ is_good_text (setting_is [] s) (wanted_of v t)
    unfolding is_good_text wanted_of
    text_zero q = sym (rw (e, sym p ∙ q))

    module _ (q : x ≡ false) {u : Bool} (w : u ≡ is_utf8 t) where
      pub text_other : u ≡ false → false ≡ is_good_text (setting_is [] s) (wanted_of v t)
      unfolding is_good_text wanted_of
      text_other f = sym (rw (e, sym p ∙ q, sym w ∙ f))

      pub text_length : u ≡ true → ltb (length t) s.size ≡ is_good_text (setting_is [] s) (wanted_of v t)
      unfolding is_good_text wanted_of setting_is
      text_length f = sym (rw (e, sym p ∙ q, sym w ∙ f))

pub ruleset texts = (good_event, good_number, text_zero, text_other, text_length, rules)

-- ── 26 ──

leb_alike : (a b c d : ℕ) → (a ≤ b → c ≤ d) → (c ≤ d → a ≤ b) → leb a b ≡ leb c d
leb_alike a b c d f g = by (dec_le a b)
  where
    by : Dec (a ≤ b) → leb a b ≡ leb c d
    by (yes h) = le-leb a b h ∙ sym (le-leb c d (f h))
    by (no h) = lt-leb a b (omega arith) ∙ sym (lt-leb c d (by_not (λ x. h (g x))))
      where
        by_not : (c ≤ d → ⊥) → d < c
        by_not n = omega arith

module _ (s : Setting) (space first l : ℕ) where
  pub other_space : (space ≡ s.space → ⊥) → false ≡ inside_by s space first l
  unfolding inside_by
  other_space h = sym (rw (ne_eqb _ _ h))

  module _ (e : space ≡ s.space) where
    pub too_low : s.address < first → false ≡ inside_by s space first l
    unfolding inside_by
    too_low h = sym (rw (eq-eqb _ _ e, lt-leb _ _ h))

    module _ (h : first ≤ s.address) where
      by_sum : inside_by s space first l ≡ leb (s.address + s.size) (first + l)
      unfolding inside_by
      by_sum = rw (eq-eqb _ _ e, le-leb _ _ h)

      pub too_high : l < s.address - first → false ≡ inside_by s space first l
      too_high k = sym (by_sum ∙ lt-leb (s.address + s.size) (first + l) (omega arith))

      pub by_rest : s.address - first ≤ l → leb s.size (l - (s.address - first)) ≡ inside_by s space first l
      by_rest k = leb_alike s.size (l - (s.address - first)) (s.address + s.size) (first + l) (λ x. omega arith) (λ x. omega arith) ∙ sym by_sum

pub ruleset insides = (other_space, too_low, too_high, by_rest, rules)

-- ── the first ──

text_alone : (c : List ℕ) (s : Setting) (v : Value) → is_good_text (setting_is [] s) v ≡ is_good_text (setting_is c s) v
unfolding is_good_text setting_is
text_alone c s (integer z) = refl
text_alone c s (event x) = refl
text_alone c s (string t) = refl

kind_alone : (v : Wanted) (t : List ℕ) → kind_of_value (wanted_of v []) ≡ kind_of_value (wanted_of v t)
unfolding kind_of_value wanted_of
kind_alone (Number b m) t = refl
kind_alone (Event x) t = refl
kind_alone Text t = refl

bounds_alone : (s : A.Setting) (v : Wanted) (t : List ℕ) → in_bounds s (wanted_of v []) ≡ in_bounds s (wanted_of v t)
unfolding in_bounds wanted_of
bounds_alone s (Number b m) t = refl
bounds_alone s (Event x) t = refl
bounds_alone s Text t = refl

module _ (c : List ℕ) (s : Setting) (v : Wanted) (t : List ℕ) where
  pub decides :
      {a : Bool} → a ≡ (is_float (setting_is c s) || is_mapped_event (setting_is c s))
      → {k : ℕ} → k ≡ kind_of_value (wanted_of v [])
      → (x : Bool) → Bounded (setting_is c s) (wanted_of v []) x
      → {y : Bool} → y ≡ is_good_text (setting_is [] s) (wanted_of v t)
      → {z : Bool} → z ≡ given (child_of (ascii "map") (content_in c s.part)) true (λ m. any (equals (wanted_of v t)) (properties m))
      → {i : Bool} {r : Option ℕ} → r ≡ first_of a (not (eqb k s.kind)) (not x) (not y) (not z) (not i)
      → Decides (setting_is c s) i (wanted_of v t) r
  unfolding Bounded setting_is is_admitted write_causes
  decides {a} ea {k} ek x ex {y} ey {z} ez {i} {r} er = record { of = λ w ei. by w ei (eqb (kind_of_value (wanted_of v t)) s.kind) refl }
    where
      kind_is : k ≡ kind_of_value (wanted_of v t)
      kind_is = ek ∙ kind_alone v t

      by : (w : Window) → i ≡ is_inside w (setting_is c s).variable → (q : Bool) → eqb (kind_of_value (wanted_of v t)) s.kind ≡ q → cause_of r ≡ first_cause (write_causes w (wanted_of v t) (setting_is c s))
      by w ei true q = rw (er, ea, kind_is, ex (kind_alone v t ∙ eqb-true _ _ q) ∙ bounds_alone (setting_is c s) v t, ey ∙ text_alone c s (wanted_of v t), ez, ei) (ordered _ _ _ _ _ _)
      by w ei false q = rw (er, ea, kind_is, q) (ap cause_of (later _ _ _ _ _ _ _ _ _) ∙ ordered _ true _ _ _ _)

pub ruleset deciding = (decides, good_inside, rules)

-- ── what a cause means ──

pub read_decides : (c : List ℕ) (s : Setting) (w : Window) {i : Bool} → i ≡ is_inside w (setting_is c s).variable → cause_of (read_cause s i) ≡ first_cause (read_causes w (setting_is c s))
unfolding read_cause read_causes is_float setting_is cause_of first_of first_cause
read_decides c s w {i} e = rw e (by (eqb s.kind 6) (not (is_inside w (setting_is c s).variable)))
  where
    by : (a f : Bool) → cause_of (first_of a false false false false f) ≡ first_cause ((a, 27) ∷ (f, 26) ∷ [])
    by true f = refl
    by false true = refl
    by false false = refl

pub inside_is : (c : List ℕ) (s : Setting) (space first : ℕ) (bytes : List ℕ) → inside_by s space first (length bytes) ≡ is_inside (window_of space first bytes) (setting_is c s).variable
unfolding inside_by is_inside setting_is
inside_is c s space first bytes = refl
