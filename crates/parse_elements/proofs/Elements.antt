-- Reading an element, one law for each way through the code.
use mathlib.Core.Path.{◌≡◌, refl, ◌∙◌}
use mathlib.Core.List.{List, [], ◌∷◌}
use mathlib.Core.Bool.{Bool, true, false, ◌&&◌}
use mathlib.Core.Logic.{◌⊎◌, ⊎_elim}
use Prim.Native.Nat.{ℕ, ◌+◌, ◌-◌, ◌≤◌, ◌<◌}
use native.Mathlib.Omega.{arith}
use borrow.Author.Rules.{rules}
use lib.IntN.{ℤ}
use lib.Dec.{eqb}
use lib.ListN.{length, drop, get_or, drop_of_length-le}
use Rattle.cdi.specs.Lists.{begins}
use Rattle.cdi.specs.Pieces.{attributes}
use Rattle.cdi.proofs.Quiet.{impossible}
use Rattle.scan.proofs.Along.{drop_next}
use Rattle.scan.proofs.Tests.{lt_or_le}
use Rattle.pieces_cuts.specs.Places.{part, Name}
use Rattle.pieces_cuts.specs.Cuts.{Stands}
use Rattle.marks_cuts.specs.Marks.{sort_at, start_cut, bad_cut}
use Rattle.marks_cuts.proofs.Tags.{unnamed}
use Rattle.marks_ends.specs.Ends.{Closes}
use Rattle.marks_ends.proofs.Told.{close_bad, own_tag, own_name, own_ahead, other_tag, other_name, close_refused}
use Rattle.tags.specs.Reads.{Reads}
use Rattle.tags.specs.declared.Tag.{Tag}
use Rattle.parse_steps.specs.Asks.{step_of, begin_fault}
use Rattle.parse_sums.specs.Sums.{enter_of, leave_of, written_of}
use Rattle.parse_sums.specs.declared.State.{State as Summed}
use Rattle.parse_laws.specs.Passing.{Passed, Fails}
use Rattle.parse_laws.proofs.Steps.{stop_fails, fails_later, not_begun, short_element, fails_inside, another, long_element}
use Rattle.parse_state.specs.States.{state_of, Fits}
use Rattle.parse_state.specs.declared.State.{State}
use Rattle.parse_elements.specs.Reading.{ElementReads, ContentReads}
use Rattle.parse_elements.specs.declared.Reached.{Reached}
use Rattle.parse_elements.proofs.Standing.{bad_tag, start_tag}
use Rattle.parse_elements.proofs.Leaves.{counted}

-- what is known behind the content of an element, in the short form or behind its end tag: leaving it gives the element
pub record Ended (s : List ℕ) (left at b : ℕ) (st : State) (t : List ℤ) (n p b' : ℕ) (last : State) (t₁ : List ℤ) : Type 0 where
  pub fits : Fits last
  pub long : length t₁ ≡ length t
  pub reads : (st' : State) {t' : List ℤ} → state_of st' ≡ leave_of (state_of st) at (part s (at + 1) n) (attributes n 0 (drop n s)) (state_of last) → Fits st' → st'.tally.records ≤ last.tally.records
      → t' ≡ written_of (state_of st) at (part s (at + 1) n) (attributes n 0 (drop n s)) (state_of last) t₁ → length t' ≡ length t₁
      → ElementReads s left at b (state_of st) t t' (record { number = 0; place = p; begun = b'; state = st' })

-- ── answers ──

module _ (s : List ℕ) (left at b : ℕ) (st : Summed) (t t' : List ℤ) where
  refused_here : (n p x : ℕ) (y : State) → (n ≡ 0 → ⊥) → Fails s left at b n p → ElementReads s left at b st t t' (record { number = n; place = p; begun = x; state = y })
  refused_here n p x y z f = record { done = λ e. absurd (z e); ahead = λ e. absurd (z e); fits = λ e. absurd (z e); fails = λ e. f }

  read_here : (e b' : ℕ) (y : State) → Passed s left at b st t e b' (state_of y) t' → at < e → Fits y → ElementReads s left at b st t t' (record { number = 0; place = e; begun = b'; state = y })
  read_here e b' y w l f = record { done = λ q. w; ahead = λ q. l; fits = λ q. f; fails = λ q. absurd (q refl) }

  malformed_here : (x : ℕ) (y : State) → Stands s at (bad_cut s at) → ElementReads s left at b st t t' (record { number = 4; place = at; begun = x; state = y })
  unfolding step_of
  malformed_here x y u = refused_here 4 at x y (λ z. omega arith) (stop_fails s left at b u refl)

-- ── the ways ──

module _ (s : List ℕ) (left at b : ℕ) (st : State) (t : List ℤ) {n : ℕ} (p : sort_at (drop at s) ≡ 0) (v : Name s (at + 1) n) where
  pub no_name : (x : ℕ) (y : State) → n ≡ at + 1 → ElementReads s left at b (state_of st) t t (record { number = 4; place = at; begun = x; state = y })
  no_name x y z = malformed_here s left at b (state_of st) t t x y (unnamed s at p v z)

  module _ {e : ℕ} (tag : Tag) (z : n ≡ at + 1 → ⊥) (r : Reads s at n e tag) where
    pub no_tag : (x : ℕ) (y : State) → tag.end ≡ 0 → ElementReads s left at b (state_of st) t t (record { number = 4; place = at; begun = x; state = y })
    no_tag x y q = malformed_here s left at b (state_of st) t t x y (bad_tag s at p v z r q)

    module _ (y : tag.end ≡ 0 → ⊥) {m : ℕ} (f : m ≡ begin_fault tag.refers left b) where
      pub refused_tag : (x : ℕ) (w : State) → (m ≡ 0 → ⊥) → ElementReads s left at b (state_of st) t t (record { number = m; place = at; begun = x; state = w })
      refused_tag x w q = refused_here s left at b (state_of st) t t m at x w q (not_begun s left at b (state_of st) t (start_tag s at p v z r y) refl f q)

      module _ (q : m ≡ 0) where
        pub short_ended : (inner : State) → tag.short ≡ true → b + 1 ≤ 4096 + m → st.tally.records ≤ b → state_of inner ≡ enter_of (state_of st) at (part s (at + 1) n) (attributes n 0 (drop n s)) → Fits inner → inner.tally.records ≤ st.tally.records + 1
            → {p' b' : ℕ} {last : State} {t' : List ℤ} → p' ≡ tag.end → b' ≡ b + 1 → last ≡ inner → t' ≡ t → Ended s left at b st t n p' b' last t'
        short_ended inner k l few i fit fi ep eb el et = rw (ep, eb, el, et) (record {
          fits = fit;
          long = refl;
          reads = λ st' {t'} o fit' fo w long. read_here s left at b (state_of st) t t' tag.end (b + 1) st'
              (short_element s left at b (state_of st) t u refl f q k (omega arith) (omega (arith, counted st)) i (omega (arith, counted st, counted inner)) o w (omega (arith, counted st', counted inner)) long)
              u.cut.low fit';
        })
          where
            u : Stands s at (start_cut at n tag.end tag.short tag.refers)
            u = start_tag s at p v z r y

        module _ (k : tag.short ≡ false) (l : 1 ≤ left + m) where
          one_left : 1 ≤ left
          one_left = omega arith

          module _ (inner : State) {t₁ : List ℤ} (in' : Reached) (c : ContentReads s (left - 1) tag.end (b + 1) (state_of inner) t t₁ in') where
            pub refused_inside : (in'.number ≡ 0 → ⊥) → ElementReads s left at b (state_of st) t t₁ in'
            refused_inside h = record {
              done = λ e. absurd (h e);
              ahead = λ e. absurd (h e);
              fits = λ e. absurd (h e);
              fails = λ e. fails_inside s left at b (state_of st) t (start_tag s at p v z r y) refl f q k one_left (c.fails h);
            }

            module _ (h : in'.number ≡ 0) {j x g : ℕ} (o : Closes s (at + 1) n in'.place j x g) where
              pub refused_end : (x' : ℕ) (w : State) → (j ≡ 0 → ⊥) → ElementReads s left at b (state_of st) t t₁ (record { number = j; place = in'.place; begun = x'; state = w })
              refused_end x' w d = refused_here s left at b (state_of st) t t₁ j in'.place x' w d (⊎_elim bad other (close_refused o d))
                where
                  bad : j ≡ 4 → Fails s left at b j in'.place
                  bad a = rw a (fails_inside s left at b (state_of st) t (start_tag s at p v z r y) refl f q k one_left (fails_later (c.done h) (unfold step_of in stop_fails s (left - 1) in'.place in'.begun (close_bad o a) refl)))

                  other : j ≡ 6 → Fails s left at b j in'.place
                  other a = rw a (another s left at b (state_of st) t (start_tag s at p v z r y) refl f q k one_left (c.done h) (other_tag o a) refl (other_name o a))

              pub long_ended : j ≡ 0 → state_of inner ≡ enter_of (state_of st) at (part s (at + 1) n) (attributes n 0 (drop n s))
                  → {p' b' : ℕ} {last : State} {t' : List ℤ} → p' ≡ g → b' ≡ in'.begun → last ≡ in'.state → t' ≡ t₁ → Ended s left at b st t n p' b' last t'
              long_ended d i ep eb el et = rw (ep, eb, el, et) (record {
                fits = c.fits h;
                long = (c.done h).long;
                reads = λ st' {t'} a fit fa w long. read_here s left at b (state_of st) t t' g in'.begun st'
                    (long_element s left at b (state_of st) t (start_tag s at p v z r y) refl f q k one_left (c.done h) (own_tag o d) refl (own_name o d) i a w (omega (arith, counted st', counted in'.state)) long)
                    (omega (arith, (start_tag s at p v z r y).cut.low, (c.done h).low, own_ahead o d)) fit;
              })

-- ── what the next step is asked for ──

pub name_high : {s : List ℕ} {at n : ℕ} → Name s at n → n ≤ length s
name_high v = v.high

pub name_there : {s : List ℕ} {at n : ℕ} → Name s at n → (n ≡ at → ⊥) → at < n
name_there v z = omega (arith, v.low)

pub tag_high : {s : List ℕ} {at n e : ℕ} {tag : Tag} → Reads s at n e tag → tag.end ≤ length s
tag_high r = r.high

pub wide_number : {n m k : ℕ} → n ≡ m → m ≡ k → n ≡ k
wide_number e f = e ∙ f

pub two_bytes : (s : List ℕ) (q : ℕ) → begins (60 ∷ 47 ∷ []) (drop q s) ≡ true → q + 2 ≤ length s
unfolding begins
two_bytes s q e = ⊎_elim
    (λ (h : q + 1 < length s). omega arith)
    (λ (h : length s ≤ q + 1). by h (lt_or_le q (length s)))
    (lt_or_le (q + 1) (length s))
  where
    by : length s ≤ q + 1 → (q < length s) ⊎ (length s ≤ q) → q + 2 ≤ length s
    by h w = ⊎_elim
        (λ (k : q < length s). let z : (eqb 60 (get_or s q 0) && false) ≡ true = rw (drop_next s q k, drop_of_length-le s h) at e in no (eqb 60 (get_or s q 0)) z)
        (λ (k : length s ≤ q). let z : false ≡ true = rw (drop_of_length-le s k) at e in impossible (cc))
        w
      where
        no : (t : Bool) → (t && false) ≡ true → q + 2 ≤ length s
        no true z = impossible (cc)
        no false z = impossible (cc)

module _ {s : List ℕ} {left at b : ℕ} {st : Summed} {t t' : List ℤ} (r : Reached) (c : ContentReads s left at b st t t' r) (z : r.number ≡ 0) where
  pub inside_tag : left < 24 → begins (60 ∷ 47 ∷ []) (drop r.place s) ≡ true
  inside_tag l = c.tag z (λ e. omega arith)

  pub inside_room : left < 24 → r.place + 2 ≤ length s
  inside_room l = two_bytes s r.place (inside_tag l)

pub ruleset element_ways = (no_name, name_high, name_there, tag_high, wide_number, rules)
