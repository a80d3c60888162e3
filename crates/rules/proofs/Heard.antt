-- What an element's content says as a number: the judge hears the content's own text, and nothing else.
use mathlib.Core.Path.{◌≡◌, refl, sym, ◌∙◌}
use mathlib.Core.List.{List, []}
use mathlib.Core.Bool.{Bool, true, false, cond, ◌&&◌, ◌||◌}
use mathlib.Core.Option.{Option, none, some}
use Prim.Native.Nat.{ℕ}
use lib.Dec.{eqb, leb}
use lib.IntN.{ℤ}
use Rattle.cdi.specs.Lists.{given, among}
use Rattle.cdi.specs.Faults.{unless}
use Rattle.cdi.specs.Pieces.{Attribute, Piece, start, finish, remark, refer, text, malformed, unsupported}
use Rattle.cdi.specs.Tree.{Nodes, end, element, other}
use Rattle.cdi.specs.Numbers.{number, bounded}
use Rattle.cdi.specs.Rules.{entry_of, range_faults, own_text, own_number, number_names, number_faults, is_int}
use Rattle.cdi.proofs.Quiet.{impossible}
use Rattle.rules_judge.specs.declared.Judge.{Judge}
use Rattle.rules_judge.specs.Judging.{Least, row_at, is_foreign, as_whole, said_by, said_faults, is_value, spoken, is_number_row, fresh, enter_of, other_of, number_blame, passed, leave_of, judge_nodes}
use Rattle.rules_judge.specs.declared.Said.{Said}
use Rattle.rules_judge.specs.declared.Said.TheVariants.{Silent, No, Large, Value}
use Rattle.names.specs.Names.{element_number}
use Rattle.rules.proofs.Named.{Numbered}
use Rattle.rules.proofs.Steps.{Reads, reads_other, reads_leave, cond_holds, given_holds}

-- what is heard of a content, after what was heard before
pub heard : Said → Nodes → Said
heard s end = s
heard s (other p c following) = heard (spoken s c) following
heard s (element p n a kids following) = heard No following

-- ── the judge hears it ──

leave_said : (j : Judge) (p : ℕ) (n : List ℕ) (s : List Attribute) (i : Judge) → (leave_of j p n s i).said ≡ No
unfolding leave_of passed
leave_said j p n s i =
    cond_holds (λ (k : Judge). k.said ≡ No) (is_foreign j) refl (given_holds (λ (k : Judge). k.said ≡ No) (entry_of (row_at j.row) n) refl (λ e. refl))

module _ {k : ℕ} {in_int : Bool} (judged : eqb k 24 ≡ false) (listed : (in_int && (leb 19 k && leb k 22)) ≡ true) where
  other_said : {j : Judge} (p : ℕ) (c : Piece) → Reads k in_int j → (other_of j p c).said ≡ spoken j.said c
  unfolding other_of is_foreign is_number_row
  other_said p c r = rw (r.row, r.numeric, judged, listed)

  -- In an element that holds a number the judge hears the content.
  said_after : {j : Judge} (t : Nodes) → Reads k in_int j → (judge_nodes j t).said ≡ heard j.said t
  unfolding judge_nodes heard
  said_after {j = j} end r = refl
  said_after {j = j} (other p c following) r = said_after {j = other_of j p c} following (reads_other p c r) ∙ rw (other_said p c r)
  said_after {j = j} (element p n s kids following) r =
      said_after {j = leave_of j p n s (judge_nodes (enter_of j p n s) kids)} following (reads_leave p n s (judge_nodes (enter_of j p n s) kids) r) ∙ rw (leave_said j p n s (judge_nodes (enter_of j p n s) kids))

-- The judge that enters an element which holds a number in an int hears its content.
pub fresh_said : (l : Least) {n : List ℕ} → Numbered n → among n number_names ≡ true → (kids : Nodes) → (judge_nodes (fresh l (element_number n) true) kids).said ≡ heard Silent kids
unfolding fresh
fresh_said l h a kids = said_after h.judged (h.numeric a) kids (record { row = refl; numeric = refl })

-- ── it is the content's own number ──

-- what was heard, and the number that it is
pub record Means (s : Said) (o : Option ℤ) : Type 0 where
  pub faults : (p : ℕ) → said_faults p s ≡ range_faults p bounded o
  pub value : is_value s ≡ given o false bounded
  pub held : (z : ℤ) → o ≡ some z → bounded z ≡ true → s ≡ Value (as_whole z)

means_none : (s : Said) → ((p : ℕ) → said_faults p s ≡ range_faults p bounded none) → is_value s ≡ false → Means s none
means_none s f v = record { faults = f; value = v; held = λ z q h. impossible (cc) }

silent_means : Means Silent none
unfolding said_faults range_faults is_value
silent_means = means_none Silent (λ p. refl) refl

no_means : Means No none
unfolding said_faults range_faults is_value
no_means = means_none No (λ p. refl) refl

said_means : (o : Option ℤ) → Means (said_by o) o
unfolding said_by said_faults range_faults is_value unless
said_means none = no_means
said_means (some z) = by (bounded z) refl
  where
    by : (t : Bool) → bounded z ≡ t → Means (cond (bounded z) (Value (as_whole z)) Large) (some z)
    by true q = rw q (record { faults = λ p. rw q; value = sym q; held = λ y e h. rw (inner y e) })
      where
        inner : (y : ℤ) → some z ≡ some y → z ≡ y
        inner y e = cc
    by false q = rw q (record { faults = λ p. rw q; value = sym q; held = λ y e h. cc })

heard_no : (t : Nodes) → heard No t ≡ No
unfolding heard spoken
heard_no end = refl
heard_no (other p c following) = heard_no following
heard_no (element p n s kids following) = heard_no following

no_more : (t : Nodes) → Means (heard No t) none
no_more t = rw (heard_no t) no_means

-- a text is followed by nothing else
spoken_twice : (o : Option ℤ) (c : Piece) → spoken (said_by o) c ≡ No
unfolding spoken said_by
spoken_twice none c = refl
spoken_twice (some z) c = cond_holds (λ s. spoken s c ≡ No) (bounded z) refl refl

-- What is heard of a content is its own number.
pub heard_means : (t : Nodes) → Means (heard Silent t) (own_number t)
unfolding heard spoken own_number own_text
heard_means end = silent_means
heard_means (element p n s kids following) = no_more following
heard_means (other p (text s) end) = said_means (number s)
heard_means (other p (text s) (element q n a kids following)) = no_more following
heard_means (other p (text s) (other q c following)) = rw (spoken_twice (number s) c) (no_more following)
heard_means (other p (start n s e) following) = no_more following
heard_means (other p (finish n) following) = no_more following
heard_means (other p remark following) = no_more following
heard_means (other p (refer c) following) = no_more following
heard_means (other p malformed following) = no_more following
heard_means (other p unsupported following) = no_more following

-- The faults of an element's number are known after its content.
pub number_blamed : (l : Least) (in_int : Bool) (j : Judge) (p : ℕ) (n : List ℕ) (kids : Nodes) → j.numeric ≡ in_int → Numbered n
    → number_blame j p n (judge_nodes (fresh l (element_number n) (in_int || is_int n)) kids) ≡ number_faults in_int p n kids
unfolding number_blame number_faults
number_blamed l false j p n kids q h = rw q
number_blamed l true j p n kids q h = rw q (by (among n number_names) refl)
  where
    by : (t : Bool) → among n number_names ≡ t
        → cond (among n number_names) (said_faults p (judge_nodes (fresh l (element_number n) true) kids).said) [] ≡ cond (among n number_names) (range_faults p bounded (own_number kids)) []
    by true a = rw (a, fresh_said l h a kids) ((heard_means kids).faults p)
    by false a = rw a
