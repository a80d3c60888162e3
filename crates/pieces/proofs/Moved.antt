-- A piece that is cut from a part of the content, and the same at the part's place: only the places of a tag's attributes differ.
use mathlib.Core.Path.{◌≡◌, refl, ap, ◌∙◌}
use mathlib.Core.List.{List, [], ◌∷◌, map}
use mathlib.Core.Bool.{Bool, true, false, cond, ◌||◌}
use mathlib.Core.Option.{Option, none, some}
use Prim.Native.Nat.{ℕ, zero, suc, ◌+◌, ◌-◌}
use native.Mathlib.Omega.{arith}
use lib.ListN.{length, drop}
use lib.Dec.{eqb}
use Rattle.cdi.specs.Lists.{ascii, ◌>>=◌, given, is_some, any, while, after, begins, strip, beyond}
use Rattle.cdi.specs.Pieces.{Attribute, Piece, start, finish, remark, refer, text, malformed, unsupported, blank, name_at, attribute_at, attributes, tag_end, bears, twice, comment, instruction, end_tag, start_tag, reference, is_text, run, or_malformed, piece_at}
use Rattle.cdi.specs.Markup.{refers}
use Rattle.cdi.proofs.Quiet.{impossible}
use Rattle.pieces_cuts.specs.Cuts.{name_of, text_of, code_of, short_of, refers_of}
use Rattle.pieces.proofs.Tagless.{tagless, quiet_comment, quiet_instruction, quiet_reference}

abbrev pub moved_attribute : ℕ → Attribute → Attribute
moved_attribute i a = record { place = i + a.place; name = a.name; value = a.value }

pub attributes_moved : (i at k : ℕ) (s : List ℕ) → attributes (i + at) k s ≡ map (moved_attribute i) (attributes at k s)
unfolding attributes
attributes_moved i at k [] = refl
attributes_moved i at (suc k) (x ∷ s) = let on : i + at + 1 ≡ i + (at + 1) = omega arith in ap (λ (n : ℕ). attributes n k s) on ∙ attributes_moved i (at + 1) k s
attributes_moved i at zero (x ∷ s) = by (blank x) (attribute_at (after blank (x ∷ s))) (λ m. ap (λ (n : ℕ). attributes n m s) on ∙ attributes_moved i (at + 1) m s)
  where
    on : i + at + 1 ≡ i + (at + 1)
    on = omega arith

    p : ℕ
    p = length (while blank (x ∷ s))

    there : i + at + p ≡ i + (at + p)
    there = omega arith

    by : (b : Bool) (o : Option ((List ℕ × List ℕ) × List ℕ)) → ((m : ℕ) → attributes (i + at + 1) m s ≡ map (moved_attribute i) (attributes (at + 1) m s))
        → cond b (given o [] (λ a. record { place = i + at + p; name = a.0.0; value = a.0.1 } ∷ attributes (i + at + 1) (length s - length a.1) s)) []
        ≡ map (moved_attribute i) (cond b (given o [] (λ a. record { place = at + p; name = a.0.0; value = a.0.1 } ∷ attributes (at + 1) (length s - length a.1) s)) [])
    by false o h = refl
    by true none h = refl
    by true (some a) h = rw (there, h (length s - length a.1))

any_moved : (f : Attribute → Bool) (i : ℕ) (s : List Attribute) → ((a : Attribute) → f (moved_attribute i a) ≡ f a) → any f (map (moved_attribute i) s) ≡ any f s
unfolding any
any_moved f i [] h = refl
any_moved f i (a ∷ s) h = rw (h a, any_moved f i s h)

twice_moved : (i : ℕ) (s : List Attribute) → twice (map (moved_attribute i) s) ≡ twice s
unfolding twice
twice_moved i [] = refl
twice_moved i (a ∷ s) = rw (any_moved (bears a.name) i s (λ b. unfold bears in refl), twice_moved i s)

refers_moved : (i : ℕ) (s : List Attribute) → refers (map (moved_attribute i) s) ≡ refers s
unfolding refers
refers_moved i s = any_moved (λ a. any (eqb 38) a.value) i s (λ b. refl)

-- ── pieces ──

abbrev pub moved_piece : ℕ → Piece → Piece
moved_piece i (start n s e) = start n (map (moved_attribute i) s) e
moved_piece i (finish n) = finish n
moved_piece i remark = remark
moved_piece i (refer c) = refer c
moved_piece i (text t) = text t
moved_piece i malformed = malformed
moved_piece i unsupported = unsupported

-- what doesn't ask for a place says the same of both
unmoved : {A : Type 0} (f : Piece → A) (i : ℕ) → ((n : List ℕ) (s : List Attribute) (e : Bool) → f (start n (map (moved_attribute i) s) e) ≡ f (start n s e))
    → (c : Piece) → f (moved_piece i c) ≡ f c
unmoved f i h (start n s e) = h n s e
unmoved f i h (finish n) = refl
unmoved f i h remark = refl
unmoved f i h (refer c) = refl
unmoved f i h (text t) = refl
unmoved f i h malformed = refl
unmoved f i h unsupported = refl

pub record Unmoved (i : ℕ) (c : Piece) : Type 0 where
  pub name : name_of (moved_piece i c) ≡ name_of c
  pub text' : text_of (moved_piece i c) ≡ text_of c
  pub code : code_of (moved_piece i c) ≡ code_of c
  pub short : short_of (moved_piece i c) ≡ short_of c
  pub refers' : refers_of (moved_piece i c) ≡ refers_of c

pub all_unmoved : (i : ℕ) (c : Piece) → Unmoved i c
unfolding name_of text_of code_of short_of refers_of
all_unmoved i c = record {
  name = unmoved name_of i (λ n s e. refl) c;
  text' = unmoved text_of i (λ n s e. refl) c;
  code = unmoved code_of i (λ n s e. refl) c;
  short = unmoved short_of i (λ n s e. refl) c;
  refers' = unmoved refers_of i (λ n s e. refers_moved i s) c;
}

abbrev pub moved_cut : ℕ → Piece × List ℕ → Piece × List ℕ
moved_cut i c = (moved_piece i c.0, c.1)

start_moved : (i : ℕ) (s : List ℕ) → or_malformed (start_tag (i + 1) s) ≡ moved_cut i (or_malformed (start_tag 1 s))
unfolding start_tag
start_moved i s = by (name_at s)
  where
    tag : ℕ → List ℕ × List ℕ → Bool × List ℕ → Option (Piece × List ℕ)
    tag at n e = cond (twice (attributes (at + length n.0) 0 n.1)) none (some (start n.0 (attributes (at + length n.0) 0 n.1) e.0, e.1))

    same_tag : (n : List ℕ × List ℕ) (e : Bool × List ℕ) → or_malformed (tag (i + 1) n e) ≡ moved_cut i (or_malformed (tag 1 n e))
    same_tag n e =
        let a = attributes (1 + length n.0) 0 n.1 in
        let on : i + 1 + length n.0 ≡ i + (1 + length n.0) = omega arith in
        let m : attributes (i + 1 + length n.0) 0 n.1 ≡ map (moved_attribute i) a = ap (λ (k : ℕ). attributes k 0 n.1) on ∙ attributes_moved i (1 + length n.0) 0 n.1 in
        rw (m, twice_moved i a) (either (twice a) a n e)
      where
        either : (t : Bool) (a : List Attribute) (n : List ℕ × List ℕ) (e : Bool × List ℕ) → or_malformed (cond t none (some (start n.0 (map (moved_attribute i) a) e.0, e.1))) ≡ moved_cut i (or_malformed (cond t none (some (start n.0 a e.0, e.1))))
        either true a n e = unfold or_malformed in refl
        either false a n e = unfold or_malformed in refl

    ended : (n : List ℕ × List ℕ) (o : Option (Bool × List ℕ)) → or_malformed (o >>= tag (i + 1) n) ≡ moved_cut i (or_malformed (o >>= tag 1 n))
    ended n none = unfold or_malformed in refl
    ended n (some e) = same_tag n e

    by : (o : Option (List ℕ × List ℕ)) → or_malformed (o >>= λ n. tag_end 0 n.1 >>= tag (i + 1) n) ≡ moved_cut i (or_malformed (o >>= λ n. tag_end 0 n.1 >>= tag 1 n))
    by none = unfold or_malformed in refl
    by (some n) = ended n (tag_end 0 n.1)

-- a piece that is no start tag is the same at every place
still : (i : ℕ) (c : Piece × List ℕ) → tagless c.0 ≡ true → c ≡ moved_cut i c
unfolding tagless
still i (start n s e, t) h = impossible (cc)
still i (finish n, t) h = refl
still i (remark, t) h = refl
still i (refer c, t) h = refl
still i (text u, t) h = refl
still i (malformed, t) h = refl
still i (unsupported, t) h = refl

end_still : (i : ℕ) (s : List ℕ) → or_malformed (end_tag s) ≡ moved_cut i (or_malformed (end_tag s))
unfolding end_tag
end_still i s = by (name_at s)
  where
    closed : (n : List ℕ × List ℕ) (o : Option (List ℕ)) → or_malformed (o >>= λ t. some (finish n.0, t)) ≡ moved_cut i (or_malformed (o >>= λ t. some (finish n.0, t)))
    closed n none = unfold or_malformed in refl
    closed n (some t) = unfold or_malformed in refl

    by : (o : Option (List ℕ × List ℕ)) → or_malformed (o >>= λ n. strip (ascii ">") (after blank n.1) >>= λ t. some (finish n.0, t)) ≡ moved_cut i (or_malformed (o >>= λ n. strip (ascii ">") (after blank n.1) >>= λ t. some (finish n.0, t)))
    by none = unfold or_malformed in refl
    by (some n) = closed n (strip (ascii ">") (after blank n.1))

run_still : (i : ℕ) (s : List ℕ) → or_malformed (run s) ≡ moved_cut i (or_malformed (run s))
unfolding run
run_still i s = by (is_some (beyond (ascii "]]>") (while is_text s)))
  where
    by : (b : Bool) → or_malformed (cond b none (some (text (while is_text s), after is_text s))) ≡ moved_cut i (or_malformed (cond b none (some (text (while is_text s), after is_text s))))
    by true = unfold or_malformed in refl
    by false = unfold or_malformed in refl

record Moves (i : ℕ) (x y : Piece × List ℕ) : Type 0 where
  is : x ≡ moved_cut i y

either : {i : ℕ} {x x' y y' : Piece × List ℕ} (b : Bool) → Moves i x x' → Moves i y y' → Moves i (cond b x y) (cond b x' y')
either true e f = e
either false e f = f

-- the piece at the front of a part that stands at i
pub piece_moved : (i : ℕ) (s : List ℕ) → piece_at i s ≡ moved_cut i (piece_at 0 s)
unfolding piece_at
piece_moved i s =
    (either (begins (ascii "<") s)
    (either (begins (ascii "<!DOCTYPE") s || begins (ascii "<![CDATA[") s) (record { is = refl })
    (either (begins (ascii "<!--") s) (record { is = still i (or_malformed (comment (drop 4 s))) (quiet_comment (drop 4 s)).is })
    (either (begins (ascii "<?") s) (record { is = still i (or_malformed (instruction (drop 2 s))) (quiet_instruction (drop 2 s)).is })
    (either (begins (ascii "</") s) (record { is = end_still i (drop 2 s) }) (record { is = start_moved i (drop 1 s) })))))
    (either (begins (ascii "&") s) (record { is = still i (or_malformed (reference (drop 1 s))) (quiet_reference (drop 1 s)).is }) (record { is = run_still i s }))).is
