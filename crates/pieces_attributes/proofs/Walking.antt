-- The attributes of a tag, one after another: one step, shared by every loop over them.
use mathlib.Core.Path.{◌≡◌, refl, sym, ap, ◌∙◌}
use mathlib.Core.List.{List, [], ◌∷◌}
use mathlib.Core.Bool.{Bool, true, false, cond}
use mathlib.Core.Option.{Option, none, some}
use mathlib.Core.Logic.{⊎_elim}
use Prim.Native.Nat.{ℕ, zero, suc, ◌+◌, ◌-◌, ◌≤◌, ◌<◌}
use native.Mathlib.Nat.{add-zero}
use native.Mathlib.Omega.{arith}
use borrow.Author.Rules.{rules}
use borrow.Author.Tests.{eq-eqb, ne_eqb}
use lib.Dec.{eqb}
use lib.ListN.{length, drop, get_or, drop_of_length-le, length-drop}
use lib.Seq.{drop-drop}
use Rattle.cdi.specs.Lists.{ascii, ◌>>=◌, given, any, while, after, same, begins, between}
use Rattle.cdi.specs.Pieces.{Attribute, blank, name_start, name_at, attribute_at, attributes, tag_end, bears, twice}
use Rattle.cdi.specs.Markup.{refers}
use Rattle.scan.specs.Spans.{span_end}
use Rattle.scan.proofs.Along.{drop_next}
use Rattle.scan.proofs.Tests.{lt_or_le, eq_or_ne}
use Rattle.pieces_cuts.specs.Places.{part, attribute_of, texts_of, attribute_from, Next, closing, Closes}
use Rattle.pieces_cuts.specs.declared.places.Attribute.{Attribute as Places}

-- the bytes that are still to pass end at a place
pub skip_to : (s : List ℕ) (i e : ℕ) → i < e → e ≤ length s → drop (length (drop (i + 1) s) - length (drop e s)) (drop (i + 1) s) ≡ drop e s
skip_to s i e h k =
    let there : i + 1 + (length (drop (i + 1) s) - length (drop e s)) ≡ e = omega (arith, length-drop (i + 1) s, length-drop e s) in
    drop-drop (length (drop (i + 1) s) - length (drop e s)) (i + 1) s ∙ ap (λ (n : ℕ). drop n s) there

attributes_skip : (at k : ℕ) (s : List ℕ) → attributes at k s ≡ attributes (at + k) 0 (drop k s)
unfolding attributes
attributes_skip at zero s = rw add-zero
attributes_skip at (suc k) [] = refl
attributes_skip at (suc k) (x ∷ s) = let again : at + 1 + k ≡ at + suc k = omega arith in attributes_skip (at + 1) k s ∙ ap (λ (n : ℕ). attributes n 0 (drop k s)) again

tag_skip : (k : ℕ) (s : List ℕ) → tag_end k s ≡ tag_end 0 (drop k s)
unfolding tag_end
tag_skip zero s = refl
tag_skip (suc k) [] = refl
tag_skip (suc k) (x ∷ s) = tag_skip k s

-- ── one step ──

given_cond : {A B : Type 0} (b : Bool) (o : Option A) (d : B) (f : A → B) → cond b (given o d f) d ≡ given (cond b o none) d f
given_cond true o d f = refl
given_cond false o d f = refl

bind_cond : {A B : Type 0} (b : Bool) (o : Option A) (f : A → Option B) → cond b (o >>= f) none ≡ (cond b o none >>= f)
bind_cond true o f = refl
bind_cond false o f = refl

behind_blanks : (s : List ℕ) {c : (List ℕ × List ℕ) × List ℕ} → attribute_from s ≡ some c → attribute_at (after blank s) ≡ some c
unfolding attribute_from
behind_blanks s {c} e = by (blank (get_or s 0 0)) e
  where
    by : (b : Bool) → cond b (attribute_at (after blank s)) none ≡ some c → attribute_at (after blank s) ≡ some c
    by true e = e
    by false e = cc

-- where an attribute begins, no word does whose first byte begins no name
no_word : (w : ℕ) (ws t : List ℕ) {c : (List ℕ × List ℕ) × List ℕ} → name_start w ≡ false → attribute_at t ≡ some c → begins (w ∷ ws) t ≡ false
unfolding attribute_at name_at begins
no_word w ws [] n e = refl
no_word w ws (y ∷ t) {c} n e = ⊎_elim
    (λ h. let z : name_start y ≡ false = ap name_start (sym h) ∙ n in let q : none ≡ some c = rw z at e in cc)
    (λ h. rw (ne_eqb w y h))
    (eq_or_ne w y)

right_mark : name_start 62 ≡ false
unfolding name_start between
right_mark = refl

slash : name_start 47 ≡ false
unfolding name_start between
slash = refl

module _ (s : List ℕ) (i : ℕ) (h : i < length s) where
  attributes_step : attributes i 0 (drop i s) ≡ given (attribute_from (drop i s)) [] (λ a. record { place = span_end blank s i; name = a.0.0; value = a.0.1 } ∷ attributes (i + 1) (length (drop (i + 1) s) - length a.1) (drop (i + 1) s))
  unfolding attributes attribute_from span_end
  attributes_step = rw (drop_next s i h) (given_cond (blank (get_or s i 0)) (attribute_at (after blank (get_or s i 0 ∷ drop (i + 1) s))) [] (λ a. record { place = i + length (while blank (get_or s i 0 ∷ drop (i + 1) s)); name = a.0.0; value = a.0.1 } ∷ attributes (i + 1) (length (drop (i + 1) s) - length a.1) (drop (i + 1) s)))

  tag_step : tag_end 0 (drop i s) ≡ (let t = after blank (drop i s) in cond (begins (ascii ">") t) (some (false, drop 1 t)) (cond (begins (ascii "/>") t) (some (true, drop 2 t)) (attribute_from (drop i s) >>= λ a. tag_end (length (drop (i + 1) s) - length a.1) (drop (i + 1) s))))
  unfolding tag_end attribute_from
  tag_step = rw (drop_next s i h) (rw (bind_cond (blank (get_or s i 0)) (attribute_at (after blank (get_or s i 0 ∷ drop (i + 1) s))) (λ a. tag_end (length (drop (i + 1) s) - length a.1) (drop (i + 1) s))))

-- no attribute follows
module _ (s : List ℕ) (i : ℕ) (n : attribute_from (drop i s) ≡ none) where
  pub none_left : attributes i 0 (drop i s) ≡ []
  unfolding attributes
  none_left = ⊎_elim (λ h. attributes_step s i h ∙ rw n) (λ h. rw (drop_of_length-le s h)) (lt_or_le i (length s))

  tag_none : tag_end 0 (drop i s) ≡ closing (after blank (drop i s))
  unfolding closing tag_end after begins
  tag_none = ⊎_elim (λ h. tag_step s i h ∙ rw n) (λ h. rw (drop_of_length-le s h)) (lt_or_le i (length s))

module _ {s : List ℕ} {i : ℕ} {a : Places} (v : Next s i a) where
  module _ (e : a.end ≡ i) where
    none_from : attribute_from (drop i s) ≡ none
    none_from = v.is ∙ rw (eq-eqb _ _ e)

    pub no_more : attributes i 0 (drop i s) ≡ []
    no_more = none_left s i none_from

  module _ (e : a.end ≡ i → ⊥) where
    some_from : attribute_from (drop i s) ≡ some (texts_of s a, drop a.end s)
    some_from = v.is ∙ rw (ne_eqb _ _ e)

    pub ahead : i < a.end
    ahead = let o = v.ordered in omega (arith, o.name, o.behind, o.value, o.close, o.end)

    there : i < length s
    there = omega (arith, ahead, v.ordered.high)

    skipped : drop (length (drop (i + 1) s) - length (drop a.end s)) (drop (i + 1) s) ≡ drop a.end s
    skipped = skip_to s i a.end ahead v.ordered.high

    resumed : i + 1 + (length (drop (i + 1) s) - length (drop a.end s)) ≡ a.end
    resumed = omega (arith, ahead, v.ordered.high, length-drop (i + 1) s, length-drop a.end s)

    pub one_more : attributes i 0 (drop i s) ≡ attribute_of s a ∷ attributes a.end 0 (drop a.end s)
    one_more = attributes_step s i there ∙ rw (some_from, attributes_skip, skipped, resumed, v.first e)

    tag_more : tag_end 0 (drop i s) ≡ tag_end 0 (drop a.end s)
    tag_more =
        let t = behind_blanks (drop i s) some_from in
        tag_step s i there ∙ rw (no_word 62 [] (after blank (drop i s)) right_mark t, no_word 47 (62 ∷ []) (after blank (drop i s)) slash t, some_from, tag_skip, skipped)

    pub less : length s - a.end < length s - i
    less = omega (arith, ahead, v.ordered.high)

-- ── what is left from here gives what the whole gives ──

pub record Walking {R : Type 0} (f : List Attribute → R) (s : List ℕ) (at i : ℕ) : Type 0 where
  pub left : f (attributes at 0 (drop at s)) ≡ f (attributes i 0 (drop i s))
  pub high : i ≤ length s

pub walk : {R : Type 0} (f : List Attribute → R) (s : List ℕ) (at : ℕ) → at ≤ length s → Walking f s at at
walk f s at h = record { left = refl; high = h }

walked : {R : Type 0} {f : List Attribute → R} {s : List ℕ} {at i : ℕ} → Walking f s at i → attribute_from (drop i s) ≡ none → f (attributes at 0 (drop at s)) ≡ f []
walked {f = f} {s = s} {i = i} w n = w.left ∙ ap f (none_left s i n)

module _ {R : Type 0} {f : List Attribute → R} {s : List ℕ} {at i : ℕ} {a : Places} (w : Walking f s at i) (v : Next s i a) where
  walks : (a.end ≡ i → ⊥) → f (attributes at 0 (drop at s)) ≡ f (attribute_of s a ∷ attributes a.end 0 (drop a.end s))
  walks e = w.left ∙ ap f (one_more v e)

  onward : (a.end ≡ i → ⊥) → f (attribute_of s a ∷ attributes a.end 0 (drop a.end s)) ≡ f (attributes a.end 0 (drop a.end s)) → Walking f s at a.end
  onward e q = record { left = walks e ∙ q; high = v.ordered.high }

-- a name looked for
pub unnamed : (n : List ℕ) {s : List ℕ} {at i : ℕ} → Walking (any (bears n)) s at i → attribute_from (drop i s) ≡ none → false ≡ any (bears n) (attributes at 0 (drop at s))
unfolding any
unnamed n w e = sym (walked w e)

module _ (n : List ℕ) {s : List ℕ} {at i : ℕ} {a : Places} (w : Walking (any (bears n)) s at i) (v : Next s i a) where
  module _ {r : Bool} (e : a.end ≡ i → ⊥) (k : r ≡ same n (part s a.name a.behind)) where
    pub is_it : r ≡ true → true ≡ any (bears n) (attributes at 0 (drop at s))
    unfolding any bears
    is_it x = sym (walks w v e ∙ rw (← k, x))

    pub is_other : r ≡ false → Walking (any (bears n)) s at a.end
    unfolding any bears
    is_other x = onward w v e (rw (← k, x))

pub ruleset naming = (walk, unnamed, is_it, is_other, less, rules)

-- a name that stands twice
pub once : {s : List ℕ} {at i : ℕ} → Walking twice s at i → attribute_from (drop i s) ≡ none → false ≡ twice (attributes at 0 (drop at s))
unfolding twice
once w e = sym (walked w e)

module _ {s : List ℕ} {at i : ℕ} {a : Places} (w : Walking twice s at i) (v : Next s i a) where
  module _ {r : Bool} (e : a.end ≡ i → ⊥) (k : r ≡ any (bears (part s a.name a.behind)) (attributes a.end 0 (drop a.end s))) where
    pub again : r ≡ true → true ≡ twice (attributes at 0 (drop at s))
    unfolding twice
    again x = sym (walks w v e ∙ rw (← k, x))

    pub not_again : r ≡ false → Walking twice s at a.end
    unfolding twice
    not_again x = onward w v e (rw (← k, x))

pub ruleset doubling = (walk, once, again, not_again, less, rules)

-- a reference in a value
pub no_reference : {s : List ℕ} {at i : ℕ} → Walking refers s at i → attribute_from (drop i s) ≡ none → false ≡ refers (attributes at 0 (drop at s))
unfolding refers any
no_reference w e = sym (walked w e)

module _ {s : List ℕ} {at i : ℕ} {a : Places} (w : Walking refers s at i) (v : Next s i a) where
  module _ {r : Bool} (e : a.end ≡ i → ⊥) (k : r ≡ any (eqb 38) (part s a.value a.close)) where
    pub a_reference : r ≡ true → true ≡ refers (attributes at 0 (drop at s))
    unfolding refers any
    a_reference x = sym (walks w v e ∙ rw (← k, x))

    pub not_in_this : r ≡ false → Walking refers s at a.end
    unfolding refers any
    not_in_this x = onward w v e (rw (← k, x))

pub ruleset referring = (walk, no_reference, a_reference, not_in_this, less, rules)

-- the end of the tag
pub record Closing (s : List ℕ) (at i : ℕ) : Type 0 where
  pub left : tag_end 0 (drop at s) ≡ tag_end 0 (drop i s)
  pub low : at ≤ i
  pub high : i ≤ length s

pub close_walk : (s : List ℕ) (at : ℕ) → at ≤ length s → Closing s at at
close_walk s at h = record { left = refl; low = omega arith; high = h }

pub closed : {s : List ℕ} {at i : ℕ} → Closing s at i → attribute_from (drop i s) ≡ none → Closes s at i
closed {s} {at} {i} w n = record { is = w.left ∙ tag_none s i n; all = none_left s i n; low = w.low; high = w.high }

module _ {s : List ℕ} {at i : ℕ} {a : Places} (w : Closing s at i) (v : Next s i a) where
  pub last_one : a.end ≡ i → Closes s at i
  last_one e = closed w (none_from v e)

  pub another : (a.end ≡ i → ⊥) → Closing s at a.end
  another e = record { left = w.left ∙ tag_more v e; low = omega (arith, w.low, ahead v e); high = v.ordered.high }

pub ruleset close_loop = (close_walk, closed, another, less, rules)
