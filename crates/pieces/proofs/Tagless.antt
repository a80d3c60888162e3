-- Comments, instructions and references are neither tags nor runs of text.
use mathlib.Core.Path.{◌≡◌, refl}
use mathlib.Core.List.{List}
use mathlib.Core.Bool.{Bool, true, false, cond, not, ◌&&◌, ◌||◌}
use mathlib.Core.Option.{Option, none, some}
use Prim.Native.Nat.{ℕ}
use lib.ListN.{get_or}
use Rattle.cdi.specs.Lists.{ascii, ◌>>=◌, ◌or_else◌, is_empty, while, after, begins, strip, beyond}
use Rattle.cdi.specs.Text.{is_char}
use Rattle.cdi.specs.Pieces.{Piece, start, finish, remark, refer, text, malformed, unsupported, blank, digit, name_at, is_xml, comment, instruction, decimal, hex_digit, hexadecimal, refer_to, numbered, named, reference, or_malformed}

-- neither a tag nor a run of text
unfoldable pub tagless : Piece → Bool
tagless (start n s e) = false
tagless (finish n) = false
tagless remark = true
tagless (refer c) = true
tagless (text t) = false
tagless malformed = true
tagless unsupported = true

-- the same of what a reader finds, if it finds something
pub record Quiet (o : Option (Piece × List ℕ)) : Type 0 where
  pub is : tagless (or_malformed o).0 ≡ true

quiet_none : Quiet none
unfolding tagless or_malformed
quiet_none = record { is = refl }

quiet_some : (p : Piece) (t : List ℕ) → tagless p ≡ true → Quiet (some (p, t))
unfolding or_malformed
quiet_some p t e = record { is = e }

quiet_bind : {A : Type 0} (o : Option A) {f : A → Option (Piece × List ℕ)} → ((a : A) → Quiet (f a)) → Quiet (o >>= f)
quiet_bind none h = quiet_none
quiet_bind (some a) h = h a

quiet_cond : (b : Bool) {x y : Option (Piece × List ℕ)} → Quiet x → Quiet y → Quiet (cond b x y)
quiet_cond true p q = p
quiet_cond false p q = q

quiet_else : (o : Option (Piece × List ℕ)) {x : Option (Piece × List ℕ)} → Quiet o → Quiet x → Quiet (o or_else x)
quiet_else none p q = q
quiet_else (some a) p q = p

pub quiet_comment : (s : List ℕ) → Quiet (comment s)
unfolding comment tagless
quiet_comment s = quiet_bind (beyond (ascii "--") s) (λ t. quiet_bind (strip (ascii ">") t) (λ u. quiet_some remark u refl))

pub quiet_instruction : (s : List ℕ) → Quiet (instruction s)
unfolding instruction tagless
quiet_instruction s = quiet_bind (name_at s) (λ n. quiet_bind (beyond (ascii "?>") n.1) (λ t. quiet_cond (not (is_xml n.0) && (begins (ascii "?>") n.1 || blank (get_or n.1 0 0))) (quiet_some remark t refl) quiet_none))

quiet_refer : (c : ℕ) (t : List ℕ) → Quiet (refer_to c t)
unfolding refer_to tagless
quiet_refer c t = quiet_cond (is_char c) (quiet_some (refer c) t refl) quiet_none

quiet_numbered : (p : ℕ → Bool) (f : ℕ → List ℕ → ℕ) (s : List ℕ) → Quiet (numbered p f s)
unfolding numbered
quiet_numbered p f s = quiet_bind (strip (ascii ";") (after p s)) (λ t. quiet_cond (is_empty (while p s)) quiet_none (quiet_refer (f 0 (while p s)) t))

quiet_named : (w : List ℕ) (c : ℕ) (s : List ℕ) → Quiet (named w c s)
unfolding named tagless
quiet_named w c s = quiet_bind (strip w s) (λ t. quiet_some (refer c) t refl)

pub quiet_reference : (s : List ℕ) → Quiet (reference s)
unfolding reference
quiet_reference s =
    quiet_else _ (quiet_named _ 60 s)
    (quiet_else _ (quiet_named _ 62 s)
    (quiet_else _ (quiet_named _ 38 s)
    (quiet_else _ (quiet_named _ 34 s)
    (quiet_else _ (quiet_named _ 39 s)
    (quiet_else _ (quiet_bind (strip (ascii "#x") s) (quiet_numbered hex_digit hexadecimal)) (quiet_bind (strip (ascii "#") s) (quiet_numbered digit decimal)))))))
