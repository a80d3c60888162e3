-- An int's min and max: what the judge keeps of them while it reads the content.
use mathlib.Core.Path.{◌≡◌, refl, ap, ◌∙◌}
use mathlib.Core.List.{List}
use mathlib.Core.Bool.{Bool, true, false, not, ◌&&◌, ◌||◌}
use mathlib.Core.Option.{Option, none, some}
use Prim.Native.Nat.{ℕ}
use lib.Dec.{eqb}
use Rattle.cdi.specs.Lists.{ascii, given, is_empty, same, among, lists_page}
use Rattle.cdi.specs.Pieces.{Attribute, Piece}
use Rattle.cdi.specs.Tree.{Nodes, end, element, other}
use Rattle.cdi.specs.Numbers.{bounded}
use Rattle.cdi.specs.Rows.{rows_page}
use Rattle.cdi.specs.Rules as R
use Rattle.cdi.specs.Rules.{Before, behind, child_faults, entry_from, entry_of, own_number, number_names}
use Rattle.cdi.proofs.Quiet.{impossible, same_equal, same_comm}
use Rattle.rules_judge.specs.declared.Judge.{Judge}
use Rattle.rules_judge.specs.declared.Bound.{Bound}
use Rattle.rules_judge.specs.declared.Said.TheVariants.{Silent}
use Rattle.names.specs.Names.{element_number}
use Rattle.rules_judge.specs.Judging.{row_at, is_foreign, is_value, entry_faults, enter_of, other_of, bounding, bound_sound, passed, leave_of, judge_nodes, judging_page}
use Rattle.rules.proofs.Named.{numbered, counted}
use Rattle.rules.proofs.Ordered.{Like, child_alike}
use Rattle.rules.proofs.Steps.{Reads, reads_other, reads_leave, cond_holds, not_foreign, looked_up, enter_known, like_other, like_leave}
use Rattle.rules.proofs.Heard.{heard, heard_means, fresh_said}

-- an int's number
abbrev pub int : ℕ
int = element_number (ascii "int")

int_judged : eqb int 24 ≡ false
unfolding lists_page judging_page
int_judged = refl

-- a child of an int that an int's row knows and that holds a number
record BoundName (w : List ℕ) : Type 0 where
  entry : ℕ × Bool
  known : entry_of (row_at int) w ≡ some entry
  listed : among w number_names ≡ true

min_name : BoundName (ascii "min")
unfolding lists_page rows_page judging_page entry_of entry_from number_names
min_name = record { entry = (3, false); known = refl; listed = refl }

max_name : BoundName (ascii "max")
unfolding lists_page rows_page judging_page entry_of entry_from number_names
max_name = record { entry = (4, false); known = refl; listed = refl }

-- ── the bounds that the judge keeps ──

-- the bound of that name after some more content
unfoldable pub bound_from : List ℕ → Bound → Nodes → Bound
bound_from w b end = b
bound_from w b (other p c following) = bound_from w b following
bound_from w b (element p n s kids following) = bound_from w (bounding (same n w) b p (heard Silent kids)) following

-- a child of that name has no fault
is_sound : List ℕ → Before → ℕ → List ℕ → List Attribute → Nodes → Bool
is_sound w b p n s kids = not (same w n) || (is_empty (child_faults (row_at int) b p n) && (is_empty s && given (own_number kids) false bounded))

never_unknown : {w : List ℕ} (n : List ℕ) → BoundName w → entry_of (row_at int) n ≡ none → same n w ≡ false
never_unknown {w} n h q = by (same n w) refl
  where
    by : (t : Bool) → same n w ≡ t → same n w ≡ false
    by true m = let z = same_equal n w m in let k = h.known in impossible (cc)
    by false m = m

spread : (a c x : Bool) → (not (a || c) || x) ≡ ((not a || x) && (not c || x))
spread true true true = refl
spread true true false = refl
spread true false true = refl
spread true false false = refl
spread false true true = refl
spread false true false = refl
spread false false x = refl

and_all : (x : Bool) → x ≡ (x && (true && true))
and_all true = refl
and_all false = refl

shuffled : (a t u x y : Bool) → ((a && (t && u)) && (x && y)) ≡ (a && ((t && x) && (u && y)))
shuffled false t u x y = refl
shuffled true false u x y = refl
shuffled true true true x y = refl
shuffled true true false true y = refl
shuffled true true false false y = refl

module _ {j : Judge} (r : Reads int true j) (p : ℕ) (n : List ℕ) (s : List Attribute) (kids : Nodes) where
  -- the judge of a child after its content
  inner : Judge
  inner = judge_nodes (enter_of j p n s) kids

  inner_said : {w : List ℕ} (e : ℕ × Bool) → BoundName w → entry_of (row_at int) n ≡ some e → same n w ≡ true → inner.said ≡ heard Silent kids
  unfolding inner
  inner_said {w} e h q m = rw (enter_known int_judged r p n s e q) (fresh_said _ (numbered int n e q) (rw (← same_equal n w m) at h.listed) kids)

  unknown_bound : {w : List ℕ} → BoundName w → entry_of (row_at int) n ≡ none → (b : Bound) → b ≡ bounding (same n w) b p (heard Silent kids)
  unfolding bounding
  unknown_bound h q b = rw (never_unknown n h q)

  known_bound : {w : List ℕ} (e : ℕ × Bool) → BoundName w → entry_of (row_at int) n ≡ some e → (b : Bound) (t : Bool) → same n w ≡ t
      → bounding t b p inner.said ≡ bounding t b p (heard Silent kids)
  unfolding bounding
  known_bound e h q b true m = rw (inner_said e h q m)
  known_bound e h q b false m = refl

  value_known : {w : List ℕ} (e : ℕ × Bool) → BoundName w → entry_of (row_at int) n ≡ some e → same n w ≡ true → is_value inner.said ≡ given (own_number kids) false bounded
  value_known e h q m = rw (inner_said e h q m) (heard_means kids).value

  child_sound : {b : Before} (e : ℕ × Bool) → entry_of (row_at int) n ≡ some e → Like j.last b
      → bound_sound j p n s e inner ≡ (is_sound (ascii "min") b p n s kids && is_sound (ascii "max") b p n s kids)
  unfolding bound_sound is_sound
  child_sound {b} e q l =
      let empty = (child_alike (row_at int) p n e q (counted (row_at int) n e q) l).empty in
      rw (same_comm (ascii "min") n, same_comm (ascii "max") n, empty) (by (same n (ascii "min")) refl (same n (ascii "max")) refl)
    where
      by : (t : Bool) → same n (ascii "min") ≡ t → (u : Bool) → same n (ascii "max") ≡ u
          → (not (same n (ascii "min") || same n (ascii "max")) || (is_empty (entry_faults j.last p e) && (is_empty s && is_value inner.said)))
          ≡ ((not (same n (ascii "min")) || (is_empty (entry_faults j.last p e) && (is_empty s && given (own_number kids) false bounded)))
          && (not (same n (ascii "max")) || (is_empty (entry_faults j.last p e) && (is_empty s && given (own_number kids) false bounded))))
      by true m u k = rw (value_known e min_name q m) (spread (same n (ascii "min")) (same n (ascii "max")) _)
      by false m true k = rw (value_known e max_name q k) (spread (same n (ascii "min")) (same n (ascii "max")) _)
      by false m false k = rw (m, k)

  unknown_sound : {w : List ℕ} (b : Before) → BoundName w → entry_of (row_at int) n ≡ none → is_sound w b p n s kids ≡ true
  unfolding is_sound
  unknown_sound {w} b h q = rw (same_comm w n, never_unknown n h q)

  -- the bounds and whether they are sound, behind the child
  record Left (b : Before) (i : Judge) : Type 0 where
    low : i.low ≡ bounding (same n (ascii "min")) j.low p (heard Silent kids)
    high : i.high ≡ bounding (same n (ascii "max")) j.high p (heard Silent kids)
    sound : i.sound ≡ (j.sound && (is_sound (ascii "min") b p n s kids && is_sound (ascii "max") b p n s kids))

  left : {b : Before} → Like j.last b → (o : Option (ℕ × Bool)) → entry_of (row_at int) n ≡ o → Left b (leave_of j p n s inner)
  unfolding leave_of passed
  left {b} l none q = rw (not_foreign int_judged r, looked_up int_judged r n, q) (record {
    low = unknown_bound min_name q j.low;
    high = unknown_bound max_name q j.high;
    sound = rw (unknown_sound b min_name q, unknown_sound b max_name q) (and_all j.sound);
  })
  left l (some e) q = rw (not_foreign int_judged r, looked_up int_judged r n, q) (record {
    low = known_bound e min_name q j.low (same n (ascii "min")) refl;
    high = known_bound e max_name q j.high (same n (ascii "max")) refl;
    sound = ap (λ t. j.sound && t) (child_sound e q l);
  })

-- ── what the judge knows after an int's content ──

-- the bounds and whether they are sound, after some more content
pub record After (j : Judge) (b : Before) (t : Nodes) (k : Judge) : Type 0 where
  pub low : k.low ≡ bound_from (ascii "min") j.low t
  pub high : k.high ≡ bound_from (ascii "max") j.high t
  pub sound : k.sound ≡ (j.sound && (R.sound (row_at int) (ascii "min") b t && R.sound (row_at int) (ascii "max") b t))

-- the same bounds, sound or not as before
record Unmoved (j k : Judge) : Type 0 where
  low : k.low ≡ j.low
  high : k.high ≡ j.high
  sound : k.sound ≡ j.sound

unmoved : (j : Judge) (p : ℕ) (c : Piece) → Unmoved j (other_of j p c)
unfolding other_of
unmoved j p c = cond_holds (Unmoved j) (is_foreign j) (record { low = refl; high = refl; sound = refl }) (record { low = refl; high = refl; sound = refl })

-- After some content of an int the judge has the content's bounds, and knows whether they are sound.
pub after : {j : Judge} {b : Before} (t : Nodes) → Reads int true j → Like j.last b → After j b t (judge_nodes j t)
unfolding judge_nodes bound_from R.sound is_sound inner
after {j} end r l = record { low = refl; high = refl; sound = and_all j.sound }
after {j} {b} (other p c following) r l =
    let h = after {j = other_of j p c} {b = b} following (reads_other p c r) (like_other j p c l) in
    let u = unmoved j p c in
    record { low = h.low ∙ rw u.low; high = h.high ∙ rw u.high; sound = h.sound ∙ rw u.sound }
after {j} {b} (element p n s kids following) r l =
    let i = judge_nodes (enter_of j p n s) kids in
    let h = after {j = leave_of j p n s i} {b = behind (row_at int) b n} following (reads_leave p n s i r) (like_leave int_judged r p n s i l) in
    let u = left r p n s kids l (entry_of (row_at int) n) refl in
    let first : List ℕ → Bool = λ w. is_sound w b p n s kids in
    let others : List ℕ → Bool = λ w. R.sound (row_at int) w (behind (row_at int) b n) following in
    record {
      low = h.low ∙ rw u.low;
      high = h.high ∙ rw u.high;
      sound = h.sound ∙ rw u.sound (shuffled j.sound (first (ascii "min")) (first (ascii "max")) (others (ascii "min")) (others (ascii "max")));
    }
