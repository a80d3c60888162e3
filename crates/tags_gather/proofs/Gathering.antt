-- The attributes of a tag, one after another: what was noted of those before a place and what is still to come give what all of them say.
use mathlib.Core.Path.{◌≡◌, refl, sym, ap, ◌∙◌}
use mathlib.Core.List.{List, [], ◌∷◌}
use mathlib.Core.Bool.{Bool, true, false, cond, not, ◌&&◌, ◌||◌}
use mathlib.Core.Option.{none}
use mathlib.Core.Logic.{⊎_elim}
use Prim.Native.Nat.{ℕ, ◌+◌, ◌-◌, ◌≤◌, ◌<◌}
use native.Mathlib.Omega.{arith}
use borrow.Author.Rules.{rules}
use borrow.Author.Tests.{eq-eqb, ne_eqb}
use lib.Dec.{eqb}
use lib.ListN.{length, drop, get_or, set, length-set}
use lib.Seq.{get_or-set_same, get_or-set_other}
use Rattle.cdi.specs.Lists.{ascii, any, all, same, lists_page}
use Rattle.cdi.specs.Pieces.{Attribute, attributes}
use Rattle.cdi.specs.Markup.{refers}
use Rattle.cdi.specs.Rules.{attribute_value, size_text}
use Rattle.scan.proofs.Tests.{eq_or_ne}
use Rattle.names.specs.Names.{attribute_number}
use Rattle.names.proofs.Positions.{attribute_high}
use Rattle.pieces_cuts.specs.Places.{part, attribute_of, Next, Closes}
use Rattle.pieces_attributes.proofs.Walking.{no_more, one_more, ahead, less, Closing, close_walk, last_one, another}
use Rattle.rules_judge.proofs.Sized.{default_size}
use Rattle.rules_judge.specs.Tables as T
use Rattle.rules_judge.specs.Tables.{rule_at, is_one_of, has_number, size_in, int_size, tables_page}
use Rattle.tags_spots.specs.Spots.{places_of, Tells}
use Rattle.tags_spots.specs.declared.Spot.{Spot}
use Rattle.tags_values.specs.Codes.{amount_for, code_of, amount_of, numbered, code_in, amount_in}
use Rattle.tags_values.proofs.Numbered.{front_code, behind_code, front_amount, behind_amount}
use Rattle.tags_values.proofs.Formed.{code_there}
use Rattle.tags_values.proofs.Numbered.{by_number}
use Rattle.tags_faults.specs.Told.{known_set, has_bit}
use Rattle.tags_faults.proofs.Ruled.{bit_known}
use Rattle.tags_cells.specs.Cells.{is_first, with_code, with_amount, with_exact, has_one, was_met, known_twice, Fresh}
use Rattle.tags_gather.specs.Gathers.{Gathers}

-- ── the cells ──

-- the cells with one attribute more: a number that was not met before, and all others
module _ (a : ℕ) (v codes : List ℕ) where
  kept : is_first a codes ≡ false → with_code a v codes ≡ codes
  unfolding with_code
  kept e = rw e

  first : is_first a codes ≡ true → a < length codes → get_or (with_code a v codes) a 0 ≡ code_of a v
  unfolding with_code
  first e h = rw e (get_or-set_same codes a (code_of a v) 0 h)

  elsewhere : (b : ℕ) → (b ≡ a → ⊥) → get_or (with_code a v codes) b 0 ≡ get_or codes b 0
  unfolding with_code
  elsewhere b h = by (is_first a codes)
    where
      by : (t : Bool) → get_or (cond t (set codes a (code_of a v)) codes) b 0 ≡ get_or codes b 0
      by true = get_or-set_other codes a b (code_of a v) 0 h
      by false = refl

  code_long : length (with_code a v codes) ≡ length codes
  unfolding with_code
  code_long = by (is_first a codes)
    where
      by : (t : Bool) → length (cond t (set codes a (code_of a v)) codes) ≡ length codes
      by true = length-set codes a (code_of a v)
      by false = refl

  -- a known name is the first exactly if its cell is empty
  empty_first : 1 ≤ a → get_or codes a 0 ≡ 0 → is_first a codes ≡ true
  unfolding is_first
  empty_first l e = rw (ne_eqb a 0 (λ z. omega arith), e)

  full_kept : (get_or codes a 0 ≡ 0 → ⊥) → is_first a codes ≡ false
  unfolding is_first
  full_kept e = rw (ne_eqb (get_or codes a 0) 0 e) (by (not (eqb a 0)))
    where
      by : (t : Bool) → (t && false) ≡ false
      by true = refl
      by false = refl

  module _ (amounts : List ℕ) where
    amount_kept : is_first a codes ≡ false → with_amount a v codes amounts ≡ amounts
    unfolding with_amount
    amount_kept e = rw e

    amount_first : is_first a codes ≡ true → a < length amounts → get_or (with_amount a v codes amounts) a 0 ≡ amount_of a v
    unfolding with_amount
    amount_first e h = rw e (get_or-set_same amounts a (amount_of a v) 0 h)

    amount_elsewhere : (b : ℕ) → (b ≡ a → ⊥) → get_or (with_amount a v codes amounts) b 0 ≡ get_or amounts b 0
    unfolding with_amount
    amount_elsewhere b h = by (is_first a codes)
      where
        by : (t : Bool) → get_or (cond t (set amounts a (amount_of a v)) amounts) b 0 ≡ get_or amounts b 0
        by true = get_or-set_other amounts a b (amount_of a v) 0 h
        by false = refl

    amount_long : length (with_amount a v codes amounts) ≡ length amounts
    unfolding with_amount
    amount_long = by (is_first a codes)
      where
        by : (t : Bool) → length (cond t (set amounts a (amount_of a v)) amounts) ≡ length amounts
        by true = length-set amounts a (amount_of a v)
        by false = refl

-- what was noted before, and what is still to come
pub record Noted (s rest : List Attribute) (codes amounts : List ℕ) (exact : ℕ) : Type 0 where
  pub code : (b : ℕ) → 1 ≤ b → b ≤ 10 → code_in b s ≡ cond (eqb (get_or codes b 0) 0) (code_in b rest) (get_or codes b 0)
  pub amount : (b : ℕ) → 1 ≤ b → b ≤ 10 → amount_in b s ≡ cond (eqb (get_or codes b 0) 0) (amount_in b rest) (get_or amounts b 0)
  pub none_yet : (b : ℕ) → 1 ≤ b → b ≤ 10 → get_or codes b 0 ≡ 0 → get_or amounts b 0 ≡ amount_for b
  pub size : int_size s ≡ cond (eqb (get_or codes 9 0) 0) (int_size rest) exact
  pub no_size : get_or codes 9 0 ≡ 0 → exact ≡ 1
  pub unknown : get_or codes 0 0 ≡ 0
  pub codes_long : length codes ≡ 11
  pub amounts_long : length amounts ≡ 11

pub nothing_noted : (s : List Attribute) {codes amounts : List ℕ} → Fresh codes amounts → Noted s s codes amounts 1
nothing_noted s {codes} {amounts} f = record {
  code = λ b l h. rw (f.code b);
  amount = λ b l h. rw (f.code b);
  none_yet = λ b l h e. f.amount b l h;
  size = rw (f.code 9);
  no_size = λ e. refl;
  unknown = f.code 0;
  codes_long = f.codes_long;
  amounts_long = f.amounts_long;
}

-- the exact size: that of the first `size`
size_named : (n : List ℕ) → same (ascii "size") n ≡ eqb (attribute_number n) 9
size_named n = unfold lists_page tables_page in by_number 9 n (omega arith) (omega arith)

front_size : (x : Attribute) (rest : List Attribute) → attribute_number x.name ≡ 9 → int_size (x ∷ rest) ≡ size_in x.value
unfolding int_size size_text attribute_value
front_size x rest e = rw (size_named x.name, eq-eqb _ _ e)

behind_size : (x : Attribute) (rest : List Attribute) → (attribute_number x.name ≡ 9 → ⊥) → int_size (x ∷ rest) ≡ int_size rest
unfolding int_size size_text attribute_value
behind_size x rest e = rw (size_named x.name, ne_eqb _ _ e)

module _ {s rest : List Attribute} {x : Attribute} {codes amounts : List ℕ} {exact : ℕ} (w : Noted s (x ∷ rest) codes amounts exact) {a : ℕ} (e : a ≡ attribute_number x.name) where
  small : a ≤ 10
  small = omega (arith, e, attribute_high x.name)

  -- at the attribute's own number
  own_code : 1 ≤ a → code_in a s ≡ cond (eqb (get_or (with_code a x.value codes) a 0) 0) (code_in a rest) (get_or (with_code a x.value codes) a 0)
  own_code l = ⊎_elim empty full (eq_or_ne (get_or codes a 0) 0)
    where
      empty : get_or codes a 0 ≡ 0 → code_in a s ≡ cond (eqb (get_or (with_code a x.value codes) a 0) 0) (code_in a rest) (get_or (with_code a x.value codes) a 0)
      empty q =
          let now : get_or (with_code a x.value codes) a 0 ≡ code_of a x.value = first a x.value codes (empty_first a x.value codes l q) (omega (arith, w.codes_long, small)) in
          w.code a l small ∙ rw (q, now, ne_eqb (code_of a x.value) 0 (λ z. omega (arith, code_there a x.value))) (front_code x rest a (sym e))

      full : (get_or codes a 0 ≡ 0 → ⊥) → code_in a s ≡ cond (eqb (get_or (with_code a x.value codes) a 0) 0) (code_in a rest) (get_or (with_code a x.value codes) a 0)
      full q = rw (kept a x.value codes (full_kept a x.value codes q)) (w.code a l small ∙ rw (ne_eqb (get_or codes a 0) 0 q))

  own_amount : 1 ≤ a → amount_in a s ≡ cond (eqb (get_or (with_code a x.value codes) a 0) 0) (amount_in a rest) (get_or (with_amount a x.value codes amounts) a 0)
  own_amount l = ⊎_elim empty full (eq_or_ne (get_or codes a 0) 0)
    where
      empty : get_or codes a 0 ≡ 0 → amount_in a s ≡ cond (eqb (get_or (with_code a x.value codes) a 0) 0) (amount_in a rest) (get_or (with_amount a x.value codes amounts) a 0)
      empty q =
          let f = empty_first a x.value codes l q in
          let now : get_or (with_code a x.value codes) a 0 ≡ code_of a x.value = first a x.value codes f (omega (arith, w.codes_long, small)) in
          let there : get_or (with_amount a x.value codes amounts) a 0 ≡ amount_of a x.value = amount_first a x.value codes amounts f (omega (arith, w.amounts_long, small)) in
          w.amount a l small ∙ rw (q, now, there, ne_eqb (code_of a x.value) 0 (λ z. omega (arith, code_there a x.value))) (front_amount x rest a (sym e))

      full : (get_or codes a 0 ≡ 0 → ⊥) → amount_in a s ≡ cond (eqb (get_or (with_code a x.value codes) a 0) 0) (amount_in a rest) (get_or (with_amount a x.value codes amounts) a 0)
      full q = let f = full_kept a x.value codes q in rw (kept a x.value codes f, amount_kept a x.value codes amounts f) (w.amount a l small ∙ rw (ne_eqb (get_or codes a 0) 0 q))

  own_none : 1 ≤ a → get_or (with_code a x.value codes) a 0 ≡ 0 → get_or (with_amount a x.value codes amounts) a 0 ≡ amount_for a
  own_none l z = ⊎_elim empty full (eq_or_ne (get_or codes a 0) 0)
    where
      empty : get_or codes a 0 ≡ 0 → get_or (with_amount a x.value codes amounts) a 0 ≡ amount_for a
      empty q = absurd (omega (arith, z, first a x.value codes (empty_first a x.value codes l q) (omega (arith, w.codes_long, small)), code_there a x.value))

      full : (get_or codes a 0 ≡ 0 → ⊥) → get_or (with_amount a x.value codes amounts) a 0 ≡ amount_for a
      full q = absurd (q (ap (λ (l : List ℕ). get_or l a 0) (sym (kept a x.value codes (full_kept a x.value codes q))) ∙ z))

  -- the size
  own_size : int_size s ≡ cond (eqb (get_or (with_code a x.value codes) 9 0) 0) (int_size rest) (with_exact a x.value codes exact)
  own_size = ⊎_elim nine other (eq_or_ne a 9)
    where
      nine : a ≡ 9 → int_size s ≡ cond (eqb (get_or (with_code a x.value codes) 9 0) 0) (int_size rest) (with_exact a x.value codes exact)
      nine q = rw q (⊎_elim empty full (eq_or_ne (get_or codes 9 0) 0))
        where
          empty : get_or codes 9 0 ≡ 0 → int_size s ≡ cond (eqb (get_or (with_code 9 x.value codes) 9 0) 0) (int_size rest) (with_exact 9 x.value codes exact)
          empty z =
              let now : get_or (with_code 9 x.value codes) 9 0 ≡ code_of 9 x.value = first 9 x.value codes (empty_first 9 x.value codes (omega arith) z) (omega (arith, w.codes_long)) in
              let told : with_exact 9 x.value codes exact ≡ size_in x.value = unfold with_exact in rw z in
              w.size ∙ rw (z, now, told, ne_eqb (code_of 9 x.value) 0 (λ y. omega (arith, code_there 9 x.value))) (front_size x rest (sym e ∙ q))

          full : (get_or codes 9 0 ≡ 0 → ⊥) → int_size s ≡ cond (eqb (get_or (with_code 9 x.value codes) 9 0) 0) (int_size rest) (with_exact 9 x.value codes exact)
          full z =
              let told : with_exact 9 x.value codes exact ≡ exact = unfold with_exact in rw (ne_eqb (get_or codes 9 0) 0 z) in
              rw (kept 9 x.value codes (full_kept 9 x.value codes z), told) (w.size ∙ rw (ne_eqb (get_or codes 9 0) 0 z))

      other : (a ≡ 9 → ⊥) → int_size s ≡ cond (eqb (get_or (with_code a x.value codes) 9 0) 0) (int_size rest) (with_exact a x.value codes exact)
      other q =
          let told : with_exact a x.value codes exact ≡ exact = unfold with_exact in rw (ne_eqb a 9 q) in
          rw (elsewhere a x.value codes 9 (λ z. q (sym z)), told) (w.size ∙ ap (λ (n : ℕ). cond (eqb (get_or codes 9 0) 0) n exact) (behind_size x rest (λ z. q (e ∙ z))))

  still_one : get_or (with_code a x.value codes) 9 0 ≡ 0 → with_exact a x.value codes exact ≡ 1
  still_one z = ⊎_elim nine other (eq_or_ne a 9)
    where
      nine : a ≡ 9 → with_exact a x.value codes exact ≡ 1
      nine q = ⊎_elim
          (λ (y : get_or codes 9 0 ≡ 0). absurd (omega (arith, (rw q at z), first 9 x.value codes (empty_first 9 x.value codes (omega arith) y) (omega (arith, w.codes_long)), code_there 9 x.value)))
          (λ (y : get_or codes 9 0 ≡ 0 → ⊥). absurd (y (ap (λ (l : List ℕ). get_or l 9 0) (sym (kept 9 x.value codes (full_kept 9 x.value codes y))) ∙ (rw q at z))))
          (eq_or_ne (get_or codes 9 0) 0)

      other : (a ≡ 9 → ⊥) → with_exact a x.value codes exact ≡ 1
      other q = unfold with_exact in rw (ne_eqb a 9 q) (w.no_size (sym (elsewhere a x.value codes 9 (λ y. q (sym y))) ∙ z))

  one_noted : Noted s rest (with_code a x.value codes) (with_amount a x.value codes amounts) (with_exact a x.value codes exact)
  one_noted = record {
    code = λ b l h. ⊎_elim
        (λ (q : b ≡ a). rw q (own_code (omega arith)))
        (λ (q : b ≡ a → ⊥). rw (elsewhere a x.value codes b q) (w.code b l h ∙ ap (λ (n : ℕ). cond (eqb (get_or codes b 0) 0) n (get_or codes b 0)) (behind_code x rest b (λ z. q (sym (e ∙ z))))))
        (eq_or_ne b a);
    amount = λ b l h. ⊎_elim
        (λ (q : b ≡ a). rw q (own_amount (omega arith)))
        (λ (q : b ≡ a → ⊥). rw (elsewhere a x.value codes b q, amount_elsewhere a x.value codes amounts b q) (w.amount b l h ∙ ap (λ (n : ℕ). cond (eqb (get_or codes b 0) 0) n (get_or amounts b 0)) (behind_amount x rest b (λ z. q (sym (e ∙ z))))))
        (eq_or_ne b a);
    none_yet = λ b l h z. ⊎_elim
        (λ (q : b ≡ a). rw q (own_none (omega arith) (rw q at z)))
        (λ (q : b ≡ a → ⊥). amount_elsewhere a x.value codes amounts b q ∙ w.none_yet b l h (sym (elsewhere a x.value codes b q) ∙ z))
        (eq_or_ne b a);
    size = own_size;
    no_size = still_one;
    unknown = ⊎_elim
        (λ (q : 0 ≡ a). ap (λ (l : List ℕ). get_or l 0 0) (kept a x.value codes (unfold is_first in rw (← q))) ∙ w.unknown)
        (λ (q : 0 ≡ a → ⊥). elsewhere a x.value codes 0 q ∙ w.unknown)
        (eq_or_ne 0 a);
    codes_long = code_long a x.value codes ∙ w.codes_long;
    amounts_long = amount_long a x.value codes amounts ∙ w.amounts_long;
  }

-- ── what is told of all ──

any_or : {A : Type 0} (f g h : A → Bool) (c : Bool) → ((x : A) → h x ≡ (f x || (c && g x))) → (xs : List A) → any h xs ≡ (any f xs || (c && any g xs))
unfolding any
any_or f g h c e [] = sym (none c)
  where
    none : (c : Bool) → (c && false) ≡ false
    none true = refl
    none false = refl
any_or f g h c e (x ∷ xs) = rw (e x, any_or f g h c e xs) (by (f x) (any f xs) c (g x) (any g xs))
  where
    by : (p q c r t : Bool) → ((p || (c && r)) || (q || (c && t))) ≡ ((p || q) || (c && (r || t)))
    by true q c r t = refl
    by false true true true t = refl
    by false true true false t = refl
    by false true false r t = refl
    by false false true r t = refl
    by false false false r t = refl

-- the names that were met, with one more
met_more : (a : ℕ) (v codes : List ℕ) → a < length codes → get_or codes 0 0 ≡ 0 → (y : Attribute) → was_met (with_code a v codes) y ≡ (was_met codes y || (not (eqb a 0) && has_one a y))
unfolding was_met has_one
met_more a v codes h z y = ⊎_elim here there (eq_or_ne (attribute_number y.name) a)
  where
    or-false : (t : Bool) → t ≡ (t || false)
    or-false true = refl
    or-false false = refl

    or-true : (t : Bool) → true ≡ (t || true)
    or-true true = refl
    or-true false = refl

    and-false : (t : Bool) → (t && false) ≡ false
    and-false true = refl
    and-false false = refl

    there : (attribute_number y.name ≡ a → ⊥) → not (eqb (get_or (with_code a v codes) (attribute_number y.name) 0) 0) ≡ (not (eqb (get_or codes (attribute_number y.name) 0) 0) || (not (eqb a 0) && eqb (attribute_number y.name) a))
    there q = rw (elsewhere a v codes (attribute_number y.name) q, ne_eqb (attribute_number y.name) a q, and-false (not (eqb a 0))) (or-false (not (eqb (get_or codes (attribute_number y.name) 0) 0)))

    nought : a ≡ 0 → not (eqb (get_or (with_code a v codes) a 0) 0) ≡ (not (eqb (get_or codes a 0) 0) || (not (eqb a 0) && eqb a a))
    nought q = rw (kept a v codes (unfold is_first in rw q), q) (or-false (not (eqb (get_or codes 0 0) 0)))

    empty : (a ≡ 0 → ⊥) → get_or codes a 0 ≡ 0 → not (eqb (get_or (with_code a v codes) a 0) 0) ≡ (not (eqb (get_or codes a 0) 0) || (not (eqb a 0) && eqb a a))
    empty n q = rw (first a v codes (empty_first a v codes (omega arith) q) h, ne_eqb (code_of a v) 0 (λ x. omega (arith, code_there a v)), ne_eqb a 0 n, eq-eqb a a refl) (or-true (not (eqb (get_or codes a 0) 0)))

    full : (a ≡ 0 → ⊥) → (get_or codes a 0 ≡ 0 → ⊥) → not (eqb (get_or (with_code a v codes) a 0) 0) ≡ (not (eqb (get_or codes a 0) 0) || (not (eqb a 0) && eqb a a))
    full n q = rw (kept a v codes (full_kept a v codes q), ne_eqb (get_or codes a 0) 0 q)

    here : attribute_number y.name ≡ a → not (eqb (get_or (with_code a v codes) (attribute_number y.name) 0) 0) ≡ (not (eqb (get_or codes (attribute_number y.name) 0) 0) || (not (eqb a 0) && eqb (attribute_number y.name) a))
    here q = rw q (⊎_elim nought (λ n. ⊎_elim (empty n) (full n) (eq_or_ne (get_or codes a 0) 0)) (eq_or_ne a 0))

-- what was told before, and what is still to come
pub record Flagged (one two three : ℕ) (s rest : List Attribute) (codes : List ℕ) (count : ℕ) (referred known again strange : Bool) : Type 0 where
  pub counted : length s ≡ count + length rest
  pub refer : refers s ≡ (referred || refers rest)
  pub know : all (has_number one two three) s ≡ (known && all (has_number one two three) rest)
  pub twice_known : known_twice s ≡ (again || (any (was_met codes) rest || known_twice rest))
  pub odd : any (has_one 0) s ≡ (strange || any (has_one 0) rest)

none_met : (codes : List ℕ) → ((a : ℕ) → get_or codes a 0 ≡ 0) → (xs : List Attribute) → any (was_met codes) xs ≡ false
unfolding any was_met
none_met codes f [] = refl
none_met codes f (x ∷ xs) = rw (f (attribute_number x.name)) (none_met codes f xs)

pub nothing_flagged : (one two three : ℕ) (s : List Attribute) {codes amounts : List ℕ} → Fresh codes amounts → Flagged one two three s s codes 0 false true false false
nothing_flagged one two three s {codes} f = record { counted = omega arith; refer = refl; know = refl; twice_known = sym (ap (λ (t : Bool). t || known_twice s) (none_met codes f.code s)); odd = refl }

module _ {one two three : ℕ} {s rest : List Attribute} {x : Attribute} {codes : List ℕ} {count : ℕ} {referred known again strange : Bool}
    (w : Flagged one two three s (x ∷ rest) codes count referred known again strange) {a : ℕ} (e : a ≡ attribute_number x.name) (h : length codes ≡ 11) (z : get_or codes 0 0 ≡ 0) where
  pub one_flagged : {r k m : Bool} → r ≡ any (eqb 38) x.value → k ≡ is_one_of one two three a → m ≡ not (eqb (get_or codes a 0) 0)
      → Flagged one two three s rest (with_code a x.value codes) (count + 1) (referred || r) (known && k) (again || m) (strange || eqb a 0)
  one_flagged {r} {k} {m} f g q = record {
    counted = omega (arith, w.counted);
    refer = w.refer ∙ (unfold refers any in rw (← f) (or_or referred r _));
    know = w.know ∙ (unfold all has_number in rw (← e, ← g) (and_and known k _));
    twice_known = w.twice_known ∙ twice;
    odd = w.odd ∙ (unfold any has_one in rw (← e) (or_or strange (eqb a 0) _));
  }
    where
      or_or : (p q r : Bool) → (p || (q || r)) ≡ ((p || q) || r)
      or_or true q r = refl
      or_or false q r = refl

      and_and : (p q r : Bool) → (p && (q && r)) ≡ ((p && q) && r)
      and_and true q r = refl
      and_and false q r = refl

      by : (n m f c g t : Bool) → (n || ((m || f) || ((c && g) || t))) ≡ ((n || m) || ((f || (c && g)) || t))
      by true m f c g t = refl
      by false true f c g t = refl
      by false false true c g t = refl
      by false false false c g t = refl

      twice : (again || (any (was_met codes) (x ∷ rest) || known_twice (x ∷ rest))) ≡ ((again || m) || (any (was_met (with_code a x.value codes)) rest || known_twice rest))
      twice = unfold any known_twice was_met in rw (← e, ← q, any_or (was_met codes) (has_one a) (was_met (with_code a x.value codes)) (not (eqb a 0)) (met_more a x.value codes (omega (arith, e, attribute_high x.name)) z) rest) (by again m _ (not (eqb a 0)) _ _)

-- ── the loop ──

-- the tag's attributes from a place on, of which those before i are noted
pub record Going (e at : ℕ) (s : List ℕ) (i : ℕ) (codes amounts : List ℕ) (count exact : ℕ) (referred known again strange : Bool) : Type 0 where
  pub tag : Closing s at i
  pub noted : Noted (attributes at 0 (drop at s)) (attributes i 0 (drop i s)) codes amounts exact
  pub flagged : Flagged (T.attribute_of (rule_at e 0)) (T.attribute_of (rule_at e 1)) (T.attribute_of (rule_at e 2)) (attributes at 0 (drop at s)) (attributes i 0 (drop i s)) codes count referred known again strange
  pub few : count ≤ i
  pub small : exact ≤ 8

pub going : (e at : ℕ) (s : List ℕ) {codes amounts : List ℕ} → at ≤ length s → Fresh codes amounts → Going e at s at codes amounts 0 1 false true false false
going e at s h f = record { tag = close_walk s at h; noted = nothing_noted _ f; flagged = nothing_flagged _ _ _ _ f; few = omega arith; small = omega arith }

module _ {e at : ℕ} {s : List ℕ} {i : ℕ} {codes amounts : List ℕ} {count exact : ℕ} {referred known again strange : Bool} (w : Going e at s i codes amounts count exact referred known again strange) where
  pub here : i ≤ length s
  here = w.tag.high

  pub counted_low : count ≤ i
  counted_low = w.few

  pub exact_small : exact ≤ 8
  exact_small = w.small

  module _ (a : Spot) (v : Next s i (places_of a)) where
    pub gone : a.end ≡ i → Closes s at i
    gone z = last_one w.tag v z

    pub all_gathered : a.end ≡ i → Gathers e (attributes at 0 (drop at s)) (record { last = i; count = count; exact = exact; refers = referred; known = known; again = again; strange = strange }) codes amounts
    all_gathered z = record {
      count = sym (w.flagged.counted ∙ rw none (plus_none count));
      refer = sym (w.flagged.refer ∙ (unfold refers any in rw none (or-false referred)));
      know = sym (w.flagged.know ∙ (unfold all in rw none (and_true known)));
      again = sym (w.flagged.twice_known ∙ (unfold any known_twice in rw none (or-false again)));
      strange = sym (w.flagged.odd ∙ (unfold any in rw none (or-false strange)));
      exact = sym (w.noted.size ∙ size);
      cells = record { code = λ b l h. sym (w.noted.code b l h ∙ code b); amount = λ b l h. sym (w.noted.amount b l h ∙ amount b l h) };
    }
      where
        none : attributes i 0 (drop i s) ≡ []
        none = no_more v z

        plus_none : (n : ℕ) → n + 0 ≡ n
        plus_none n = omega arith

        or-false : (t : Bool) → (t || false) ≡ t
        or-false true = refl
        or-false false = refl

        and_true : (t : Bool) → (t && true) ≡ t
        and_true true = refl
        and_true false = refl

        size : cond (eqb (get_or codes 9 0) 0) (int_size (attributes i 0 (drop i s))) exact ≡ exact
        size = ⊎_elim
            (λ (q : get_or codes 9 0 ≡ 0). rw (q, none) (default_size ∙ sym (w.noted.no_size q)))
            (λ (q : get_or codes 9 0 ≡ 0 → ⊥). rw (ne_eqb (get_or codes 9 0) 0 q))
            (eq_or_ne (get_or codes 9 0) 0)

        code : (b : ℕ) → cond (eqb (get_or codes b 0) 0) (code_in b (attributes i 0 (drop i s))) (get_or codes b 0) ≡ get_or codes b 0
        code b = ⊎_elim
            (λ (q : get_or codes b 0 ≡ 0). unfold code_in numbered in rw (q, none))
            (λ (q : get_or codes b 0 ≡ 0 → ⊥). rw (ne_eqb (get_or codes b 0) 0 q))
            (eq_or_ne (get_or codes b 0) 0)

        amount : (b : ℕ) → 1 ≤ b → b ≤ 10 → cond (eqb (get_or codes b 0) 0) (amount_in b (attributes i 0 (drop i s))) (get_or amounts b 0) ≡ get_or amounts b 0
        amount b l h = ⊎_elim
            (λ (q : get_or codes b 0 ≡ 0). unfold amount_in numbered in rw (q, none) (sym (w.noted.none_yet b l h q)))
            (λ (q : get_or codes b 0 ≡ 0 → ⊥). rw (ne_eqb (get_or codes b 0) 0 q))
            (eq_or_ne (get_or codes b 0) 0)

    module _ (t : Tells s i a) (z : a.end ≡ i → ⊥) where
      pub number_small : a.number ≤ 10
      number_small = omega (arith, t.number z, attribute_high (part s a.name a.behind))

      pub value_low : a.value ≤ a.close
      value_low = v.ordered.close

      pub value_high : a.close ≤ length s
      value_high = omega (arith, v.ordered.end, v.ordered.high)

      pub one_step : {set : ℕ} {k m : Bool} {x : ℕ} {codes' amounts' : List ℕ} → set ≡ known_set e → k ≡ has_bit set a.number → m ≡ not (eqb (get_or codes a.number 0) 0)
          → x ≡ with_exact a.number (part s a.value a.close) codes exact → x ≤ 8
          → codes' ≡ with_code a.number (part s a.value a.close) codes → amounts' ≡ with_amount a.number (part s a.value a.close) codes amounts
          → Going e at s a.end codes' amounts' (count + 1) x (referred || a.refers) (known && k) (again || m) (strange || eqb a.number 0)
      one_step set f g q l p r = rw (p, r, q) (record {
        tag = another w.tag v z;
        noted = one_noted next_noted (t.number z);
        flagged = one_flagged next_flagged (t.number z) w.noted.codes_long w.noted.unknown (t.refers z) (bit_known e number_small set f) g;
        few = omega (arith, w.few, ahead v z);
        small = omega (arith, q, l);
      })
        where
          next_noted : Noted (attributes at 0 (drop at s)) (attribute_of s (places_of a) ∷ attributes a.end 0 (drop a.end s)) codes amounts exact
          next_noted = rw (← one_more v z) w.noted

          next_flagged : Flagged (T.attribute_of (rule_at e 0)) (T.attribute_of (rule_at e 1)) (T.attribute_of (rule_at e 2)) (attributes at 0 (drop at s)) (attribute_of s (places_of a) ∷ attributes a.end 0 (drop a.end s)) codes count referred known again strange
          next_flagged = rw (← one_more v z) w.flagged

pub ruleset gathering = (going, here, counted_low, exact_small, gone, all_gathered, number_small, value_low, value_high, one_step, less, rules)

pub met : (a : ℕ) (codes : List ℕ) {i : ℕ} → i ≡ a → not (eqb (get_or codes i 0) 0) ≡ not (eqb (get_or codes a 0) 0)
met a codes e = rw e
