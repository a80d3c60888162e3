-- One run of text and nothing else, piece by piece.
use mathlib.Core.Path.{◌≡◌, refl, sym, ap, ◌∙◌}
use mathlib.Core.List.{List, [], ◌∷◌, tail}
use mathlib.Core.Bool.{Bool, true, false, cond}
use mathlib.Core.Option.{none, some}
use Prim.Native.Nat.{ℕ, ◌≤◌}
use native.Mathlib.Omega.{arith}
use lib.ListN.{length}
use Rattle.cdi.specs.Pieces.{Attribute, start, remark, refer, text}
use Rattle.cdi.specs.Tree.{Nodes, end, element, other, grow, levels, top, tree}
use Rattle.cdi.specs.Numbers.{number}
use Rattle.cdi.specs.Rules.{own_text, own_number}
use Rattle.cdi.proofs.Quiet.{impossible}
use Rattle.numbers.specs.Held.{number_of}
use Rattle.numbers.specs.declared.Signed.{Signed}
use Rattle.std.specs.Borrow.{Bor}
use Rattle.std.specs.Prelude as std
use Rattle.pieces_cuts.specs.Places.{part}
use Rattle.pieces_cuts.specs.Cuts.{piece_of, Stands}
use Rattle.pieces_cuts.specs.declared.Kind.{Kind}
use Rattle.pieces_cuts.specs.declared.Kind.TheVariants.{Start, Finish, Remark, Refer, Text, Malformed, Unsupported}
use Rattle.pieces_cuts.specs.declared.Cut.{Cut}
use Rattle.levels.specs.Ahead.{from, name_in, attributes_in, here}
use Rattle.levels.proofs.Levels.{split}
use Rattle.children.specs.Siblings.{ahead}
use Rattle.children.proofs.Turning.{nothing_ahead}
use Rattle.contents.specs.declared.Role.{Role}
use Rattle.contents.specs.declared.Role.TheVariants as role
use Rattle.contents.specs.declared.Own.{Own}
use Rattle.contents.specs.Own.{role_of, is_end, text_at, Within, Lies, text_of, Told}

-- ── what is to come, by the piece that stands there ──

module _ (s : List ℕ) (i : ℕ) (c : Cut) (f : Nodes) (fs : List Nodes) where
  abbrev made : Kind → List Nodes
  made k = grow i (piece_of k s i c) (f ∷ fs)

  made_run : (k : Kind) → role_of k ≡ role.Run → made k ≡ other i (text (part s i c.end)) f ∷ fs
  unfolding role_of piece_of grow
  made_run Start q = impossible (cc)
  made_run Finish q = impossible (cc)
  made_run Remark q = impossible (cc)
  made_run Refer q = impossible (cc)
  made_run Text q = refl
  made_run Malformed q = impossible (cc)
  made_run Unsupported q = impossible (cc)

  made_end : (k : Kind) → role_of k ≡ role.End → top (made k) ≡ end
  unfolding role_of piece_of grow top
  made_end Start q = impossible (cc)
  made_end Finish q = refl
  made_end Remark q = impossible (cc)
  made_end Refer q = impossible (cc)
  made_end Text q = impossible (cc)
  made_end Malformed q = impossible (cc)
  made_end Unsupported q = impossible (cc)

  made_nothing : (k : Kind) → role_of k ≡ role.Nothing → made k ≡ f ∷ fs
  unfolding role_of piece_of grow
  made_nothing Start q = impossible (cc)
  made_nothing Finish q = impossible (cc)
  made_nothing Remark q = impossible (cc)
  made_nothing Refer q = impossible (cc)
  made_nothing Text q = impossible (cc)
  made_nothing Malformed q = refl
  made_nothing Unsupported q = refl

  made_character : (k : Kind) → role_of k ≡ role.Character → made k ≡ other i (refer c.code) f ∷ fs
  unfolding role_of piece_of grow
  made_character Start q = impossible (cc)
  made_character Finish q = impossible (cc)
  made_character Remark q = impossible (cc)
  made_character Refer q = refl
  made_character Text q = impossible (cc)
  made_character Malformed q = impossible (cc)
  made_character Unsupported q = impossible (cc)

  made_dropped : (k : Kind) → role_of k ≡ role.Dropped → made k ≡ other i remark f ∷ fs
  unfolding role_of piece_of grow
  made_dropped Start q = impossible (cc)
  made_dropped Finish q = impossible (cc)
  made_dropped Remark q = refl
  made_dropped Refer q = impossible (cc)
  made_dropped Text q = impossible (cc)
  made_dropped Malformed q = impossible (cc)
  made_dropped Unsupported q = impossible (cc)

-- nothing but an element begins so
begun : (i : ℕ) (n : List ℕ) (a : List Attribute) (b : Bool) (f : Nodes) (fs : List Nodes) → 2 ≤ length (grow i (start n a b) (f ∷ fs))
    → (is_end (top (grow i (start n a b) (f ∷ fs))) ≡ false) × (own_text (top (grow i (start n a b) (f ∷ fs))) ≡ none)
unfolding grow top is_end own_text
begun i n a true f fs h = (refl, refl)
begun i n a false f [] h = absurd (omega arith)
begun i n a false f (g ∷ fs) h = (refl, refl)

made_element : (s : List ℕ) (i : ℕ) (c : Cut) (f : Nodes) (fs : List Nodes) (k : Kind) → role_of k ≡ role.Element → 2 ≤ length (grow i (piece_of k s i c) (f ∷ fs))
    → (is_end (top (grow i (piece_of k s i c) (f ∷ fs))) ≡ false) × (own_text (top (grow i (piece_of k s i c) (f ∷ fs))) ≡ none)
unfolding role_of piece_of
made_element s i c f fs Start q h = begun i (name_in s c) (attributes_in s c) c.short f fs h
made_element s i c f fs Finish q h = impossible (cc)
made_element s i c f fs Remark q h = impossible (cc)
made_element s i c f fs Refer q h = impossible (cc)
made_element s i c f fs Text q h = impossible (cc)
made_element s i c f fs Malformed q h = impossible (cc)
made_element s i c f fs Unsupported q h = impossible (cc)

module _ {s : List ℕ} {i : ℕ} {c : Cut} (v : Stands s i c) where
  abbrev next_here : Nodes
  next_here = here s c.end

  abbrev next_around : List Nodes
  next_around = tail (ahead s c.end)

  grown : ahead s i ≡ grow i (piece_of c.kind s i c) (next_here ∷ next_around)
  unfolding levels
  grown = ap levels v.is ∙ ap (grow i (piece_of c.kind s i c)) (split (from s c.end))

  module _ {r : Role} (e : r ≡ role_of c.kind) where
    pub at_run : r ≡ role.Run → ahead s i ≡ other i (text (part s i c.end)) next_here ∷ next_around
    at_run q = grown ∙ made_run s i c next_here next_around c.kind (sym e ∙ q)

    pub at_nothing : r ≡ role.Nothing → ahead s i ≡ ahead s c.end
    at_nothing q = grown ∙ made_nothing s i c next_here next_around c.kind (sym e ∙ q) ∙ sym (split (from s c.end))

    pub at_character : r ≡ role.Character → ahead s i ≡ other i (refer c.code) next_here ∷ next_around
    at_character q = grown ∙ made_character s i c next_here next_around c.kind (sym e ∙ q)

    pub at_dropped : r ≡ role.Dropped → ahead s i ≡ other i remark next_here ∷ next_around
    at_dropped q = grown ∙ made_dropped s i c next_here next_around c.kind (sym e ∙ q)

    pub at_end : r ≡ role.End → here s i ≡ end
    unfolding tree
    at_end q = ap top grown ∙ made_end s i c next_here next_around c.kind (sym e ∙ q)

    at_element : r ≡ role.Element → 2 ≤ length (ahead s i) → (is_end (here s i) ≡ false) × (own_text (here s i) ≡ none)
    unfolding tree
    at_element q l =
        let m = made_element s i c next_here next_around c.kind (sym e ∙ q) (rw grown at l) in
        (ap (λ (fs : List Nodes). is_end (top fs)) grown ∙ m.0, ap (λ (fs : List Nodes). own_text (top fs)) grown ∙ m.1)

-- ── the end ──

-- what is to come from i on is what was to come from `at` on
pub record Same (s : List ℕ) (at i : ℕ) : Type 0 where
  pub is : ahead s at ≡ ahead s i
  pub deep : 2 ≤ length (ahead s at)
  pub high : i ≤ length s

pub same_start : (s : List ℕ) (at : ℕ) → at ≤ length s → 2 ≤ length (ahead s at) → Same s at at
same_start s at h l = record { is = refl; deep = l; high = h }

module _ {s : List ℕ} {at i : ℕ} (w : Same s at i) where
  abbrev here_is : here s at ≡ here s i
  here_is = unfold tree in ap top w.is

  out : length s ≤ i → ⊥
  out h = omega (arith, w.deep, ap length w.is, ap length (nothing_ahead s i h))

  pub end_out : length s ≤ i → true ≡ is_end (here s at)
  end_out h = absurd (out h)

  pub own_out : length s ≤ i → Lies s at std.None
  own_out h = absurd (out h)

  module _ {c : Cut} (v : Stands s i c) {r : Role} (e : r ≡ role_of c.kind) where
    pub same_on : r ≡ role.Nothing → Same s at c.end
    same_on q = record { is = w.is ∙ at_nothing v e q; deep = w.deep; high = v.cut.high }

    pub end_end : r ≡ role.End → true ≡ is_end (here s at)
    unfolding is_end
    end_end q = sym (ap is_end (here_is ∙ at_end v e q))

    end_run : r ≡ role.Run → false ≡ is_end (here s at)
    unfolding is_end tree top
    end_run q = sym (ap (λ (fs : List Nodes). is_end (top fs)) (w.is ∙ at_run v e q))

    end_character : r ≡ role.Character → false ≡ is_end (here s at)
    unfolding is_end tree top
    end_character q = sym (ap (λ (fs : List Nodes). is_end (top fs)) (w.is ∙ at_character v e q))

    end_dropped : r ≡ role.Dropped → false ≡ is_end (here s at)
    unfolding is_end tree top
    end_dropped q = sym (ap (λ (fs : List Nodes). is_end (top fs)) (w.is ∙ at_dropped v e q))

    end_element : r ≡ role.Element → false ≡ is_end (here s at)
    end_element q = sym (ap is_end here_is ∙ (at_element v e q (rw w.is at w.deep)).0)

    pub end_more : (r ≡ role.End → ⊥) → (r ≡ role.Nothing → ⊥) → false ≡ is_end (here s at)
    end_more a b = by r refl
      where
        by : (o : Role) → r ≡ o → false ≡ is_end (here s at)
        by role.Run q = end_run q
        by role.Character q = end_character q
        by role.Element q = end_element q
        by role.Dropped q = end_dropped q
        by role.End q = absurd (a q)
        by role.Nothing q = absurd (b q)

    -- ── one run of text ──

    not_own : own_text (here s i) ≡ none → Lies s at std.None
    unfolding text_at Within
    not_own q = record { is = sym (ap own_text here_is ∙ q); within = tt }

    own_end : r ≡ role.End → Lies s at std.None
    unfolding own_text
    own_end q = not_own (ap own_text (at_end v e q))

    own_character : r ≡ role.Character → Lies s at std.None
    unfolding own_text tree top
    own_character q = not_own (ap (λ (fs : List Nodes). own_text (top fs)) (at_character v e q))

    own_dropped : r ≡ role.Dropped → Lies s at std.None
    unfolding own_text tree top
    own_dropped q = not_own (ap (λ (fs : List Nodes). own_text (top fs)) (at_dropped v e q))

    own_element : r ≡ role.Element → Lies s at std.None
    own_element q = not_own (at_element v e q (rw w.is at w.deep)).1

    pub own_other : (r ≡ role.Run → ⊥) → (r ≡ role.Nothing → ⊥) → Lies s at std.None
    own_other a b = by r refl
      where
        by : (o : Role) → r ≡ o → Lies s at std.None
        by role.Run q = absurd (a q)
        by role.Character q = own_character q
        by role.Element q = own_element q
        by role.Dropped q = own_dropped q
        by role.End q = own_end q
        by role.Nothing q = absurd (b q)

    pub run_deep : r ≡ role.Run → 2 ≤ length (ahead s c.end)
    run_deep q = omega (arith, w.deep, ap length (w.is ∙ at_run v e q), ap length (split (from s c.end)))

    pub run_high : c.end ≤ length s
    run_high = v.cut.high

    run_text : r ≡ role.Run → (b : Bool) → is_end (here s c.end) ≡ b → (u : Nodes) → here s c.end ≡ u → own_text (here s i) ≡ cond b (some (part s i c.end)) none
    unfolding own_text tree top is_end
    run_text q b h u z = ap (λ (fs : List Nodes). own_text (top fs)) (at_run v e q) ∙ by u z
      where
        by : (u : Nodes) → here s c.end ≡ u → own_text (other i (text (part s i c.end)) (here s c.end)) ≡ cond b (some (part s i c.end)) none
        by end z = let k : b ≡ true = sym h ∙ ap is_end z in rw (z, k)
        by (element p n a kids following) z = let k : b ≡ false = sym h ∙ ap is_end z in rw (z, k)
        by (other p d following) z = let k : b ≡ false = sym h ∙ ap is_end z in rw (z, k)

    module _ (q : r ≡ role.Run) {b : Bool} (h : b ≡ is_end (here s c.end)) where
      pub own_run : b ≡ true → Lies s at (std.Some (record { from = i; to = c.end }))
      unfolding text_at Within
      own_run t = record { is = sym (ap own_text here_is ∙ run_text q true (sym h ∙ t) _ refl); within = (omega (arith, v.cut.low), v.cut.high) }

      pub own_more : b ≡ false → Lies s at std.None
      own_more t = not_own (run_text q false (sym h ∙ t) _ refl)

-- ── its bytes ──

module _ {s : List ℕ} {at : ℕ} {r : std.Option Own} (w : Lies s at r) where
  module _ {o : Own} (e : r ≡ std.Some o) where
    own_within : (o.from ≤ o.to) × (o.to ≤ length s)
    unfolding Within
    own_within = rw e at w.within

    pub own_low : o.from ≤ o.to
    own_low = own_within.0

    pub own_high : o.to ≤ length s
    own_high = own_within.1

    pub own_bytes : {t : Bor (List ℕ)} → t.now ≡ part s o.from o.to → Told s at (std.Some t)
    unfolding text_at text_of
    own_bytes z = record { is = ap some z ∙ sym (ap (text_at s) e) ∙ w.is }

  pub own_nothing : r ≡ std.None → Told s at std.None
  unfolding text_at text_of
  own_nothing e = record { is = sym (ap (text_at s) e) ∙ w.is }

-- ── its number ──

module _ {s : List ℕ} {at : ℕ} where
  pub is_number : {t : Bor (List ℕ)} → Told s at (std.Some t) → {q : std.Option Signed} → q ≡ number_of (number t.now) → q ≡ number_of (own_number (here s at))
  unfolding own_number text_of
  is_number w k = k ∙ sym (rw (sym w.is))

  pub no_number : Told s at std.None → std.None ≡ number_of (own_number (here s at))
  unfolding own_number text_of number_of
  no_number w = sym (rw (sym w.is))
