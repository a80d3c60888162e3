-- What an accepted write tells of its variable, and that its old bytes, put back, give the window back. All of it stands on the laws of writing
-- (the length and the bytes outside the variable are as before), not on what is stored.
use mathlib.Core.Path.{◌≡◌, refl, sym, ap, ◌∙◌}
use mathlib.Core.List.{List}
use mathlib.Core.Bool.{true}
use Prim.Native.Nat.{ℕ, ◌+◌, ◌-◌, ◌<◌, ◌≤◌}
use native.Mathlib.Omega.{arith}
use native.Mathlib.Decide.{dec_le, dec_lt}
use borrow.Author.Tests.{leb-true}
use lib.IntN.{ℤ}
use lib.ListN.{length, drop, get_or, length-take, length-drop}
use lib.Seq.{ext_get_or, get_or-take, get_or-drop}
use Rattle.cdi.specs.Faults.{fault, Answer, accepted, ◌and_then◌}
use Rattle.cdi.specs.Walk.{Found, total}
use Rattle.cdi.specs.Table.{same_table, table_of}
use Rattle.cdi.specs.Plans.{variable_of}
use Rattle.cdi.specs.Planning.{Description, described}
use Rattle.cdi.specs.Access.{Window, Value, Setting, exact, setting_in, setting_of, is_inside, overwritten, start_in, own_bytes, written, window_after}
use Rattle.undo_model.specs.Sessions.{holding}
use Rattle.cdi.proofs.Quiet.{impossible, through, test_passed}
use Rattle.cdi.proofs.Stages.{stages}
use Rattle.cdi.proofs.Promises.{nth_none}
use Rattle.cdi.proofs.Back.{lies, passed, length_overwritten, own_overwritten, before_overwritten, behind_overwritten, same_length, before_unchanged, behind_unchanged}

-- ── the variable of a setting ──

-- what the text says of variable n, where it is that of the setting g
pub record Named (b : List ℕ) (t : List ℤ) (n : ℕ) (g : Setting) : Type 0 where
  pub description : Description
  pub exactly : (described b and_then exact t) ≡ accepted description
  pub found : variable_of description.segments n ≡ accepted g.variable
  pub small : n < 1000000

same_variable : (x : Found) (g s : Setting) → ◌≡◌ {A = Answer Setting} (accepted g) (accepted s) → g.variable ≡ x → s.variable ≡ x
same_variable x g s e p = sym (ap (λ z. z.variable) (the e)) ∙ p
  where
    the : ◌≡◌ {A = Answer Setting} (accepted g) (accepted s) → g ≡ s
    the e = cc

below : (b : List ℕ) (d : Description) (n : ℕ) (x : Found) → described b ≡ accepted d → variable_of d.segments n ≡ accepted x → n < 1000000
below b d n x e f = by (dec_lt n (total d.segments))
  where
    by : Dec (n < total d.segments) → n < 1000000
    by (yes h) = omega (arith, leb-true (total d.segments) 1000000 (stages b d e).counts)
    by (no h) = let z = nth_none d.segments n (omega arith) in impossible (cc)

pub named : (b : List ℕ) (t : List ℤ) (n : ℕ) (g : Setting) → setting_of b t n ≡ accepted g → Named b t n g
unfolding setting_of exact setting_in
named b t n g e =
    through _ (setting_in t n) g e λ d p told.
    through (described b) (exact t) d p λ c q planned.
    through (variable_of d.segments n) _ g told λ x found made.
    let h = test_passed (same_table t (table_of c.segments)) (fault 20 0) c d planned in
    record {
      description = d;
      exactly = p;
      found = found ∙ ap accepted (sym (same_variable x _ g made refl));
      small = below b d n x (q ∙ ap accepted h.1) found;
    }

-- ── the window ──

-- bytes that differ from others in one stretch only are those again, once that stretch is put back
module _ (at : ℕ) (old before after : List ℕ) (same : length after ≡ length before) (room : at + length old ≤ length after)
    (front : (i : ℕ) → i < at → get_or after i 0 ≡ get_or before i 0)
    (stretch : (i : ℕ) → i < length old → get_or old i 0 ≡ get_or before (at + i) 0)
    (behind : (i : ℕ) → at + length old ≤ i → get_or after i 0 ≡ get_or before i 0) where
  own : (i : ℕ) → i < length old → get_or (overwritten at old after) (at + i) 0 ≡ get_or old i 0
  own i l =
      sym (get_or-drop at _ i 0) ∙ sym (get_or-take (length old) (drop at (overwritten at old after)) i 0 l) ∙ ap (λ x. get_or x i 0) (own_overwritten at old after room)

  each : (i : ℕ) → Dec (i < at) → Dec (at + length old ≤ i) → get_or (overwritten at old after) i 0 ≡ get_or before i 0
  each i (yes h) d = before_overwritten at old after room i 0 h ∙ front i h
  each i (no h) (yes k) = behind_overwritten at old after room i 0 k ∙ behind i k
  each i (no h) (no k) =
      let s : i ≡ at + (i - at) = omega arith in
      let l : i - at < length old = omega arith in
      ap (λ x. get_or (overwritten at old after) x 0) s ∙ own (i - at) l ∙ stretch (i - at) l ∙ ap (λ x. get_or before x 0) (sym s)

  given_back : overwritten at old after ≡ before
  given_back = ext_get_or 0 _ _ (length_overwritten at old after room ∙ same) λ i l. each i (dec_lt i at) (dec_le (at + length old) i)

module _ (b : List ℕ) (t : List ℤ) (n : ℕ) (w : Window) (v : Value) (g : Setting) (found : setting_of b t n ≡ accepted g) (e : written b t n w v ≡ accepted tt) where
  -- the variable lies inside the window
  pub inside : is_inside w g.variable ≡ true
  unfolding written
  inside = (passed w v g (rw found at e)).inside

  fits : start_in w g.variable + g.variable.size ≤ length w.bytes
  unfolding start_in
  fits = let l = lies w g.variable inside in omega (arith, l.low, l.high)

  -- it has as many bytes as its size says
  pub length_old : length (own_bytes w g.variable) ≡ g.variable.size
  unfolding own_bytes
  length_old = simp (length-take, length-drop) (omega (arith, fits))

  own_at : (i : ℕ) → i < length (own_bytes w g.variable) → get_or (own_bytes w g.variable) i 0 ≡ get_or w.bytes (start_in w g.variable + i) 0
  unfolding own_bytes
  own_at i l = get_or-take g.variable.size (drop (start_in w g.variable) w.bytes) i 0 (omega (arith, length_old)) ∙ get_or-drop (start_in w g.variable) w.bytes i 0

  -- its old bytes, put back, give the bytes before
  put_back : overwritten (start_in w g.variable) (own_bytes w g.variable) (window_after b t n w v) ≡ w.bytes
  put_back =
      let same = same_length b t n w v g found e in
      given_back (start_in w g.variable) (own_bytes w g.variable) w.bytes (window_after b t n w v) same (omega (arith, length_old, fits))
      (λ i l. before_unchanged b t n w v g found e i 0 l) own_at (λ i l. behind_unchanged b t n w v g found e i 0 (omega (arith, length_old)))

  -- afterwards the variable lies inside the window as before
  pub inside_after : is_inside (holding w (window_after b t n w v)) g.variable ≡ true
  unfolding is_inside holding
  inside_after = rw (same_length b t n w v g found e) inside

  -- and with its old bytes put back the window is that before
  pub window_back : let u = holding w (window_after b t n w v) in holding u (overwritten (start_in u g.variable) (own_bytes w g.variable) u.bytes) ≡ w
  unfolding holding start_in
  window_back = ap (holding w) put_back
