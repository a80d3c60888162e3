-- A window has one backup: what is read without a refusal is the backup of the window that it gives.
use mathlib.Core.Path.{◌≡◌, refl, sym, ap, ◌∙◌}
use mathlib.Core.List.{List, [], ◌∷◌, ◌++◌, append-nil}
use mathlib.Core.Bool.{true}
use mathlib.Core.Option.{none}
use Prim.Native.Nat.{ℕ, zero, suc, ◌+◌, ◌*◌, ◌≤◌}
use native.Mathlib.Omega.{arith}
use borrow.Author.Tests.{eqb-true, leb-true}
use lib.Dec.{eqb, leb}
use lib.ListN.{length, take, drop, length-append, length-drop, take-append-drop}
use lib.Seq.{take_at, drop_at, take_all, length-take-le}
use Rattle.cdi.specs.Lists.{all, between}
use Rattle.cdi.specs.Faults.{accepted}
use Rattle.cdi.proofs.Tests.{parts}
use Rattle.blocks.specs.Blocks.{Bytes, block, number, used, space, flag, payload, padding}
use Rattle.blocks.specs.Backups.{Kept, blocks_for, last_flag, blocks_from, backup, is_length_good, is_good, cause_of, first_bad, payloads, blocks_in, window_in, reading}
use Rattle.blocks_laws.proofs.Parts.{bytes_take, bytes_drop}
use Rattle.blocks_laws.proofs.Tests.{neither, passed, sound, accepted_none}
use Rattle.blocks_laws.proofs.Fields.{length_payload, block_again}
use Rattle.blocks_laws.proofs.Back.{Fills}

-- what the tests of 44 say of a block
record Good (k n sp : ℕ) (b : List ℕ) : Type 0 where
  its_number : number b ≡ k
  its_space : space b ≡ sp
  its_length : is_length_good n (used b) ≡ true
  its_flag : flag b ≡ last_flag n
  its_padding : all (eqb 0) (padding b) ≡ true

good : (k n sp : ℕ) (b : List ℕ) → is_good k n sp b ≡ true → Good k n sp b
unfolding is_good
good k n sp b g =
    let p = parts (eqb (number b) k) _ g in
    let q = parts (eqb (space b) sp) _ p.1 in
    let r = parts (is_length_good n (used b)) _ q.1 in
    let t = parts (eqb (flag b) (last_flag n)) (all (eqb 0) (padding b)) r.1 in
    record {
      its_number = eqb-true _ _ p.0;
      its_space = eqb-true _ _ q.0;
      its_length = r.0;
      its_flag = eqb-true _ _ t.0;
      its_padding = t.1;
    }

used_fits : (n m : ℕ) → is_length_good n m ≡ true → (1 ≤ m) × (m ≤ 502)
unfolding is_length_good between
used_fits zero m h = let p = parts (leb 1 m) (leb m 502) h in (leb-true 1 m p.0, leb-true m 502 p.1)
used_fits (suc n) m h = let e = eqb-true m 502 h in (omega arith, omega arith)

-- the payload of a block with nothing wrong is as long as the block says, and that is good
pub record Fitting (n : ℕ) (b : List ℕ) : Type 0 where
  pub size : length (payload b) ≡ used b
  pub few : used b ≤ 502
  pub fits : is_length_good n (length (payload b)) ≡ true

pub fitting : (k n sp : ℕ) (b : List ℕ) → length b ≡ 512 → cause_of k n sp b ≡ none → Fitting n b
fitting k n sp b l e =
    let g = good k n sp b (passed k n sp b e).1 in
    let f = (used_fits n (used b) g.its_length).1 in
    let s = length_payload b l f in
    record { size = s; few = f; fits = ap (is_length_good n) s ∙ g.its_length }

-- it is the block of its payload
again : (k n sp : ℕ) (b : List ℕ) → length b ≡ 512 → Bytes b → cause_of k n sp b ≡ none → block k sp (last_flag n) (payload b) ≡ b
again k n sp b l h e =
    let p = passed k n sp b e in
    let g = good k n sp b p.1 in
    rw (← g.its_number, ← g.its_space, ← g.its_flag) (block_again b l h p.0 (fitting k n sp b l e).few g.its_padding)

nothing : (b : List ℕ) → length b ≡ 0 → [] ≡ b
nothing [] e = refl
nothing (x ∷ b) e = absurd (omega arith)

-- a payload before the bytes of n blocks: the first block has just this payload, the others those bytes
first_part : (n : ℕ) (p s : List ℕ) → is_length_good n (length p) ≡ true → Fills n (length s) → take 502 (p ++ s) ≡ p
unfolding is_length_good
first_part zero p [] g f = rw append-nil (take_all 502 p (used_fits zero (length p) g).1)
first_part zero p (x ∷ s) g f = absurd (omega arith)
first_part (suc n) p s g f = take_at p s 502 (eqb-true (length p) 502 g)

other_parts : (n k sp : ℕ) (p s : List ℕ) → is_length_good n (length p) ≡ true → blocks_from k n sp (drop 502 (p ++ s)) ≡ blocks_from k n sp s
unfolding is_length_good blocks_from
other_parts zero k sp p s g = refl
other_parts (suc n) k sp p s g = ap (blocks_from k (suc n) sp) (drop_at p s 502 (eqb-true (length p) 502 g))

fills_more : (n : ℕ) (p s : List ℕ) → is_length_good n (length p) ≡ true → Fills n (length s) → Fills (suc n) (length (p ++ s))
unfolding is_length_good
fills_more zero p s g f =
    let u = used_fits zero (length p) g in
    let l = length-append p s in
    record { low = omega (arith, u.0, u.1); high = omega (arith, u.0, u.1) }
fills_more (suc n) p s g f =
    let e = eqb-true (length p) 502 g in
    let l = length-append p s in
    record { low = omega arith; high = omega arith }

-- the payloads of n blocks fill n blocks
pub payloads_fill : (n k sp : ℕ) (b : List ℕ) → length b ≡ 512 * n → first_bad k n sp b ≡ none → Fills n (length (payloads n b))
unfolding payloads first_bad
payloads_fill zero k sp b l e = record { low = omega arith; high = omega arith }
payloads_fill (suc n) k sp b l e =
    let g = neither (cause_of k n sp (take 512 b)) (first_bad (k + 1) n sp (drop 512 b)) e in
    let f = fitting k n sp (take 512 b) (length-take-le 512 b (omega arith)) g.0 in
    fills_more n (payload (take 512 b)) (payloads n (drop 512 b)) f.fits (payloads_fill n (k + 1) sp (drop 512 b) (rw length-drop (omega arith)) g.1)

-- blocks with nothing wrong are those of their payloads
rebuilt : (n k sp : ℕ) (b : List ℕ) → length b ≡ 512 * n → Bytes b → first_bad k n sp b ≡ none → blocks_from k n sp (payloads n b) ≡ b
unfolding blocks_from payloads first_bad
rebuilt zero k sp b l h e = nothing b (omega arith)
rebuilt (suc n) k sp b l h e =
    let g = neither (cause_of k n sp (take 512 b)) (first_bad (k + 1) n sp (drop 512 b)) e in
    let size : length (take 512 b) ≡ 512 = length-take-le 512 b (omega arith) in
    let rest : length (drop 512 b) ≡ 512 * n = rw length-drop (omega arith) in
    let f = fitting k n sp (take 512 b) size g.0 in
    let q = payload (take 512 b) in
    let s = payloads n (drop 512 b) in
    let first =
    ap (block k sp (last_flag n)) (first_part n q s f.fits (payloads_fill n (k + 1) sp (drop 512 b) rest g.1))
    ∙ again k n sp (take 512 b) size (bytes_take 512 b h) g.0 in
    rw (first, other_parts n (k + 1) sp q s f.fits, rebuilt n (k + 1) sp (drop 512 b) rest (bytes_drop 512 b h) g.1) (take-append-drop 512 b)

blocks_for_law : (n m : ℕ) → Fills n m → blocks_for m ≡ n
unfolding blocks_for
blocks_for_law n m f = omega arith

-- what is read without a refusal is the backup of the window read
pub stored_again : (b : List ℕ) (w : Kept) → Bytes b → reading b ≡ accepted w → b ≡ backup w
unfolding backup window_in
stored_again b w h g =
    let a = accepted_none b w g in
    let s = sound b a.0 in
    let n = blocks_for_law (blocks_in b) (length (payloads (blocks_in b) b)) (payloads_fill (blocks_in b) 0 (space b) b s.whole s.good) in
    rw (← a.1, n) (sym (rebuilt (blocks_in b) 0 (space b) b s.whole h s.good))

-- a window has one backup
pub one_backup : (b c : List ℕ) (w : Kept) → Bytes b → Bytes c → reading b ≡ accepted w → reading c ≡ accepted w → b ≡ c
one_backup b c w h i g f = stored_again b w h g ∙ sym (stored_again c w i f)
