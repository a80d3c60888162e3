-- The steps of reading an element and of reading content, one law for each way through the code.
use mathlib.Core.Path.{◌≡◌, refl, sym, ap, ◌∙◌}
use mathlib.Core.List.{List, [], ◌∷◌, tail}
use mathlib.Core.Bool.{true, false, cond}
use mathlib.Core.Option.{some}
use Prim.Native.Nat.{ℕ, ◌+◌, ◌-◌, ◌≤◌, ◌<◌}
use native.Mathlib.Omega.{arith}
use lib.IntN.{ℤ}
use lib.ListN.{length, drop_of_length-le}
use Rattle.cdi.specs.Lists.{same}
use Rattle.cdi.specs.Faults.{Fault, fault, unless, lesser, least}
use Rattle.cdi.specs.Pieces.{Attribute, Piece, start, finish, pieces}
use Rattle.cdi.specs.Markup.{Progress, progress, outside, refers, innermost, piece_faults, next, markup_faults}
use Rattle.cdi.specs.Tree.{Nodes, end, element, other, top, levels, tree}
use Rattle.cdi.proofs.Quiet.{impossible}
use Rattle.pieces_cuts.specs.Places.{part}
use Rattle.pieces_cuts.specs.Cuts.{piece_of, refers_of, Stands}
use Rattle.pieces_cuts.specs.declared.Kind.{Kind}
use Rattle.pieces_cuts.specs.declared.Kind.TheVariants.{Start, Finish, Remark, Refer, Text, Malformed, Unsupported}
use Rattle.pieces_cuts.specs.declared.Cut.{Cut}
use Rattle.parse_sums.specs.Sums.{records_of, enter_of, other_of, leave_of, written_of}
use Rattle.parse_sums.specs.Folding.{Folded, folded, fold_nodes}
use Rattle.levels.specs.Ahead.{from, name_in, attributes_in, here}
use Rattle.parse_steps.specs.Asks.{step_of, begin_fault}
use Rattle.parse_laws.specs.Passing.{Passed, Fails}
use Rattle.parse_sums.specs.declared.State.{State}
use Rattle.parse_steps.specs.declared.Step.TheVariants.{Pass, Stop}
use Rattle.levels.proofs.Levels.{remark_levels, refer_levels, text_levels, short_levels, finish_levels, start_levels}
use Rattle.parse_laws.proofs.Firsts.{first_fault, no_fault}
use Rattle.parse_steps.proofs.Starts.{inside, start_clean, start_refused}

-- ── what a piece's kind says of it ──

module _ (s : List ℕ) (i : ℕ) (c : Cut) where
  -- a piece that is passed is no element
  pass_levels : (k : Kind) (cs : List (ℕ × Piece)) → step_of k ≡ Pass → levels ((i, piece_of k s i c) ∷ cs) ≡ other i (piece_of k s i c) (tree cs) ∷ tail (levels cs)
  unfolding step_of piece_of
  pass_levels Start cs e = impossible (cc)
  pass_levels Finish cs e = impossible (cc)
  pass_levels Remark cs e = remark_levels i cs
  pass_levels Refer cs e = refer_levels i cs c.code
  pass_levels Text cs e = text_levels i cs (part s i c.end)
  pass_levels Malformed cs e = impossible (cc)
  pass_levels Unsupported cs e = impossible (cc)

  -- the reading behind it is the reading before it
  pass_next : (k : Kind) (r : Progress) → step_of k ≡ Pass → next r (piece_of k s i c) ≡ r
  unfolding step_of piece_of next
  pass_next Start r e = impossible (cc)
  pass_next Finish r e = impossible (cc)
  pass_next Remark r e = refl
  pass_next Refer r e = refl
  pass_next Text r e = refl
  pass_next Malformed r e = impossible (cc)
  pass_next Unsupported r e = impossible (cc)

  -- inside the root it has no fault
  pass_inside : (k : Kind) (r : Progress) → step_of k ≡ Pass → outside r ≡ false → piece_faults r i (piece_of k s i c) ≡ []
  unfolding step_of piece_of piece_faults unless
  pass_inside Start r e h = impossible (cc)
  pass_inside Finish r e h = impossible (cc)
  pass_inside Remark r e h = refl
  pass_inside Refer r e h = rw h
  pass_inside Text r e h = rw h
  pass_inside Malformed r e h = impossible (cc)
  pass_inside Unsupported r e h = impossible (cc)

  -- a piece that is refused has that one fault, wherever it stands
  stop_least : (k : Kind) (n : ℕ) (r : Progress) → step_of k ≡ Stop n → least (piece_faults r i (piece_of k s i c)) ≡ some (fault n i)
  unfolding step_of piece_of piece_faults least lesser
  stop_least Start n r e = impossible (cc)
  stop_least Finish n r e = impossible (cc)
  stop_least Remark n r e = impossible (cc)
  stop_least Refer n r e = impossible (cc)
  stop_least Text n r e = impossible (cc)
  stop_least Malformed n r e = let q : 4 ≡ n = cc in rw (← q)
  stop_least Unsupported n r e = let q : 5 ≡ n = cc in rw (← q)

-- ── one piece ──

module _ (s : List ℕ) (i : ℕ) {c : Cut} (v : Stands s i c) {p : Piece} (q : piece_of c.kind s i c ≡ p) where
  -- the piece, and those behind it
  pub ahead : from s i ≡ (i, p) ∷ from s c.end
  ahead = v.is ∙ ap (λ (x : Piece). (i, x) ∷ from s c.end) q

  -- without a fault the reading goes on behind it
  pub goes : (r : Progress) → piece_faults r i p ≡ [] → markup_faults (length s) r (from s i) ≡ markup_faults (length s) (next r p) (from s c.end)
  goes r e = ap (markup_faults (length s) r) ahead ∙ no_fault (length s) r i p (from s c.end) e

  -- with a fault it is over
  pub halts : (r : Progress) {f : Fault} → least (piece_faults r i p) ≡ some f → f.place < c.end → least (markup_faults (length s) r (from s i)) ≡ some f
  halts r {f} e l = ap (λ (cs : List (ℕ × Piece)). least (markup_faults (length s) r cs)) ahead ∙ first_fault s r i c.end p f v.cut.high l e

module _ (s : List ℕ) (i : ℕ) {c : Cut} (v : Stands s i c) (e : c.kind ≡ Start) where
  start_piece : piece_of c.kind s i c ≡ start (name_in s c) (attributes_in s c) c.short
  unfolding piece_of
  start_piece = rw e

  start_refers : c.refers ≡ refers (attributes_in s c)
  unfolding refers_of
  start_refers = v.cut.refers' ∙ ap (λ (w : Piece × List ℕ). refers_of w.0) v.cut.is ∙ ap refers_of start_piece

-- ── the way so far ──

pub none_yet : (s : List ℕ) (left at b : ℕ) (st : State) (t : List ℤ) → at ≤ length s → b ≤ 4096 → records_of st ≤ b → Passed s left at b st t at b st t
none_yet s left at b st t h l k = record { faults = λ ms e. refl; folds = refl; around = refl; low = omega arith; high = h; begun = l; few = k; long = refl }

module _ {s : List ℕ} {left at b : ℕ} {st : State} {t : List ℤ} {i b₁ : ℕ} {st₁ : State} {t₁ : List ℤ} (v : Passed s left at b st t i b₁ st₁ t₁) where
  -- and then further
  pub farther : {e b₂ : ℕ} {st₂ : State} {t₂ : List ℤ} → Passed s left i b₁ st₁ t₁ e b₂ st₂ t₂ → Passed s left at b st t e b₂ st₂ t₂
  farther w = record {
    faults = λ ms h. v.faults ms h ∙ w.faults ms h;
    folds = v.folds ∙ w.folds;
    around = v.around ∙ w.around;
    low = omega (arith, v.low, w.low);
    high = w.high;
    begun = w.begun;
    few = w.few;
    long = w.long ∙ v.long;
  }

  -- a fault that is met now is the least of the whole way
  pub fails_later : {n p : ℕ} → Fails s left i b₁ n p → Fails s left at b n p
  fails_later f = record { first = λ ms h. ap least (v.faults ms h) ∙ f.first ms h }

-- a piece that is passed without a fault
pub passed_by : (s : List ℕ) (left i b : ℕ) (st : State) (t : List ℤ) {c : Cut} {st₁ : State} → Stands s i c → step_of c.kind ≡ Pass → ((ms : List (List ℕ)) → length ms + left ≡ 24 → piece_faults (progress ms b) i (piece_of c.kind s i c) ≡ [])
    → b ≤ 4096 → records_of st ≤ b → st₁ ≡ other_of st i (piece_of c.kind s i c) → records_of st₁ ≤ records_of st → Passed s left i b st t c.end b st₁ t
unfolding tree top fold_nodes
passed_by s left i b st t {c} {st₁} v e q l k g m = record {
  faults = λ ms h. goes s i v refl (progress ms b) (q ms h) ∙ ap (λ (r : Progress). markup_faults (length s) r (from s c.end)) (pass_next s i c c.kind (progress ms b) e);
  folds = ap (λ (fs : List Nodes). fold_nodes st t (top fs)) now ∙ ap (λ (x : State). fold_nodes x t (here s c.end)) (sym g);
  around = ap tail now;
  low = omega (arith, v.cut.low);
  high = v.cut.high;
  begun = l;
  few = omega arith;
  long = refl;
}
  where
    now : levels (from s i) ≡ other i (piece_of c.kind s i c) (tree (from s c.end)) ∷ tail (levels (from s c.end))
    now = ap levels v.is ∙ pass_levels s i c c.kind (from s c.end) e

-- an element in the fold, by the states inside it, at its content's end and behind it
fold_element : (st : State) (t : List ℤ) (p : ℕ) (n : List ℕ) (xs : List Attribute) (kids following : Nodes) {inner last st' : State} {t₁ t' : List ℤ} → inner ≡ enter_of st p n xs → fold_nodes inner t kids ≡ folded last t₁
    → st' ≡ leave_of st p n xs last → t' ≡ written_of st p n xs last t₁ → fold_nodes st t (element p n xs kids following) ≡ fold_nodes st' t' following
unfolding fold_nodes
fold_element st t p n xs kids following {last = last} {st' = st'} {t₁ = t₁} g w g' g'' =
    ap (λ (i : Folded). fold_nodes (leave_of st p n xs i.state) (written_of st p n xs i.state i.table) following) (ap (λ (x : State). fold_nodes x t kids) (sym g) ∙ w)
    ∙ ap (λ (x : State). fold_nodes x (written_of st p n xs last t₁) following) (sym g')
    ∙ ap (λ (x : List ℤ). fold_nodes st' x following) (sym g'')

no_content : (st : State) (t : List ℤ) → fold_nodes st t end ≡ folded st t
unfolding fold_nodes
no_content st t = refl

-- a piece that is refused with that number
pub stop_fails : (s : List ℕ) (left i b : ℕ) {c : Cut} {n : ℕ} → Stands s i c → step_of c.kind ≡ Stop n → Fails s left i b n i
stop_fails s left i b {c} {n} u e = record { first = λ ms h. halts s i u refl (progress ms b) (stop_least s i c c.kind n (progress ms b) e) u.cut.low }

-- ── content ──

module _ {s : List ℕ} {left at b₀ : ℕ} {st₀ : State} {t₀ : List ℤ} {i b : ℕ} {st : State} {t : List ℤ} (v : Passed s left at b₀ st₀ t₀ i b st t) where
  -- the text ends inside an element
  pub unclosed : left < 24 → length s ≤ i → Fails s left at b₀ 6 (length s)
  unfolding pieces markup_faults unless least lesser
  unclosed l h = fails_later v (record { first = λ ms e. rw (drop_of_length-le s h, inside ms b left l e) })

  module _ {c : Cut} (u : Stands s i c) where
    pub stopped : {n : ℕ} → step_of c.kind ≡ Stop n → Fails s left at b₀ n i
    stopped {n} f = fails_later v (stop_fails s left i b u f)

    pub passes : {st₁ : State} → step_of c.kind ≡ Pass → left < 24 → st₁ ≡ other_of st i (piece_of c.kind s i c) → records_of st₁ ≤ records_of st → Passed s left at b₀ st₀ t₀ c.end b st₁ t
    passes f l g m = farther v (passed_by s left i b st t u f (λ ms h. pass_inside s i c c.kind (progress ms b) f (inside ms b left l h)) v.begun v.few g m)

-- ── an element ──

module _ (s : List ℕ) (left at b : ℕ) (st : State) (t : List ℤ) {c : Cut} (u : Stands s at c) (e : c.kind ≡ Start) {n : ℕ} (f : n ≡ begin_fault c.refers left b) where
  pub not_begun : (n ≡ 0 → ⊥) → Fails s left at b n at
  not_begun z = record { first = λ ms h. halts s at u (start_piece s at u e) (progress ms b) (start_refused ms b left h at (name_in s c) (attributes_in s c) c.short (start_refers s at u e) f z) u.cut.low }

  module _ (z : n ≡ 0) where
    -- the reading inside it
    begun : (ms : List (List ℕ)) → length ms + left ≡ 24 → markup_faults (length s) (progress ms b) (from s at) ≡ markup_faults (length s) (progress (cond c.short ms (name_in s c ∷ ms)) (b + 1)) (from s c.end)
    unfolding next
    begun ms h = goes s at u (start_piece s at u e) (progress ms b) (start_clean ms b left h at (name_in s c) (attributes_in s c) c.short (start_refers s at u e) f z)

    -- in the short form: no content
    pub short_element : {inner st' : State} {t' : List ℤ} → c.short ≡ true → b + 1 ≤ 4096 → records_of st ≤ b → inner ≡ enter_of st at (name_in s c) (attributes_in s c) → records_of inner ≤ records_of st + 1
        → st' ≡ leave_of st at (name_in s c) (attributes_in s c) inner → t' ≡ written_of st at (name_in s c) (attributes_in s c) inner t → records_of st' ≤ records_of inner → length t' ≡ length t
        → Passed s left at b st t c.end (b + 1) st' t'
    unfolding tree top
    short_element {inner} {st'} {t'} y l k g m g' g'' m' long = record {
      faults = λ ms h. begun ms h ∙ rw y;
      folds = ap (λ (fs : List Nodes). fold_nodes st t (top fs)) now ∙ fold_element st t at (name_in s c) (attributes_in s c) end (here s c.end) g (no_content inner t) g' g'';
      around = ap tail now;
      low = omega (arith, u.cut.low);
      high = u.cut.high;
      begun = omega arith;
      few = omega arith;
      long = long;
    }
      where
        now : levels (from s at) ≡ element at (name_in s c) (attributes_in s c) end (tree (from s c.end)) ∷ tail (levels (from s c.end))
        now = ap levels (ahead s at u (start_piece s at u e ∙ rw y)) ∙ short_levels at (from s c.end) (name_in s c) (attributes_in s c)

    module _ (y : c.short ≡ false) (l : 1 ≤ left) where
      inward : (ms : List (List ℕ)) → length ms + left ≡ 24 → length (name_in s c ∷ ms) + (left - 1) ≡ 24
      inward ms h = omega arith

      pub fails_inside : {m p : ℕ} → Fails s (left - 1) c.end (b + 1) m p → Fails s left at b m p
      fails_inside w = record { first = λ ms h. ap least (begun ms h ∙ rw y) ∙ w.first (name_in s c ∷ ms) (inward ms h) }

      module _ {inner last : State} {t₁ : List ℤ} {q b' : ℕ} {d : Cut} (way : Passed s (left - 1) c.end (b + 1) inner t q b' last t₁) (tag : Stands s q d) (fin : d.kind ≡ Finish) where
        close_piece : piece_of d.kind s q d ≡ finish (name_in s d)
        unfolding piece_of
        close_piece = rw fin

        -- the reading at the end tag
        read : (ms : List (List ℕ)) → length ms + left ≡ 24 → markup_faults (length s) (progress ms b) (from s at) ≡ markup_faults (length s) (progress (name_in s c ∷ ms) b') (from s q)
        read ms h = begun ms h ∙ rw y (way.faults (name_in s c ∷ ms) (inward ms h))

        -- an end tag of another name
        pub another : same (name_in s c) (name_in s d) ≡ false → Fails s left at b 6 q
        unfolding piece_faults innermost unless least lesser
        another o = record { first = λ ms h. ap least (read ms h) ∙ halts s q tag close_piece (progress (name_in s c ∷ ms) b') {f = fault 6 q} (rw o) tag.cut.low }

        -- what lies around the content is what follows the element
        follows : tail (levels (from s c.end)) ≡ levels (from s d.end)
        follows = way.around ∙ ap tail (ap levels (ahead s q tag close_piece) ∙ finish_levels q (from s d.end) (name_in s d))

        whole : levels (from s at) ≡ element at (name_in s c) (attributes_in s c) (here s c.end) (here s d.end) ∷ tail (levels (from s d.end))
        whole = ap levels (ahead s at u (start_piece s at u e ∙ rw y)) ∙ start_levels at (from s c.end) (name_in s c) (attributes_in s c) (from s d.end) follows

        -- the fold of its content
        within : fold_nodes inner t (here s c.end) ≡ folded last t₁
        unfolding fold_nodes tree top
        within = way.folds ∙ ap (λ (fs : List Nodes). fold_nodes last t₁ (top fs)) (ap levels (ahead s q tag close_piece) ∙ finish_levels q (from s d.end) (name_in s d))

        pub long_element : {st' : State} {t' : List ℤ} → same (name_in s c) (name_in s d) ≡ true → inner ≡ enter_of st at (name_in s c) (attributes_in s c)
            → st' ≡ leave_of st at (name_in s c) (attributes_in s c) last → t' ≡ written_of st at (name_in s c) (attributes_in s c) last t₁ → records_of st' ≤ records_of last → length t' ≡ length t₁
            → Passed s left at b st t d.end b' st' t'
        unfolding tree top piece_faults innermost unless next
        long_element {st'} {t'} o g g' g'' m long = record {
          faults = λ ms h. read ms h ∙ goes s q tag close_piece (progress (name_in s c ∷ ms) b') (rw o);
          folds = ap (λ (fs : List Nodes). fold_nodes st t (top fs)) whole ∙ fold_element st t at (name_in s c) (attributes_in s c) (here s c.end) (here s d.end) g within g' g'';
          around = ap tail whole;
          low = omega (arith, u.cut.low, way.low, tag.cut.low);
          high = tag.cut.high;
          begun = way.begun;
          few = omega (arith, way.few);
          long = long ∙ way.long;
        }
