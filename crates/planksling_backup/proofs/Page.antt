-- What the library of backups promises, of any answers that the contracts of its calls allow: `r ≡ number_in (storing (kept sp w) o)` is all that is known of
-- the result r of storing the window w, of space sp, into the output o. The definitions stand in blocks, `Bytes s` says that each of s is below 256.
use mathlib.Core.Path.{◌≡◌, refl, sym, ap, ◌∙◌}
use mathlib.Core.List.{List, ◌++◌}
use mathlib.Core.Bool.{true, false, false≢true}
use mathlib.Core.Option.{none, some}
use mathlib.Core.Logic.{◌⊎◌, inl, inr, ⊎_elim, ◌↔◌}
use Prim.Native.Nat.{ℕ, ◌/◌, ◌<◌, ◌≤◌}
use native.Mathlib.Omega.{arith}
use lib.ListN.{length, take, drop, get_or, set}
use Rattle.cdi.specs.Faults.{Fault, fault, Answer, accepted, refused}
use Rattle.blocks.specs.Blocks.{Bytes, space}
use Rattle.blocks.specs.Backups.{kept, backup, is_storable, storing, after_storing, is_whole, first_bad, blocks_in, fault_in, window_in, Restored, restored, restoring, after_restoring}
use Rattle.blocks_laws.proofs.Promises as laws
use Rattle.outcomes.specs.Outcomes.{number_in, place_after, value_after}
use Rattle.planksling_backup.proofs.Steps.{store_ways, bad_among, read_ways, sound_whole, unsound, bad_number, bad_refused}

-- ── 1: accepted, or refused with number and place for exactly the stated cause; a refusal leaves the output as it was ──

-- planksling_backup_store
module _ (sp : ℕ) (w o : List ℕ) {r : ℕ} (answer : r ≡ number_in (storing (kept sp w) o)) where
  -- 40 exactly where the window can't be stored
  pub store_40 : r ≡ 40 ↔ (is_storable (kept sp w) ≡ false)
  unfolding number_in
  store_40 = (
    λ e. store_ways (kept sp w) o (λ a. number_in a ≡ 40 → is_storable (kept sp w) ≡ false) (λ s n. s) (λ s l n. absurd (omega arith)) (λ s l n. absurd (omega arith)) (sym answer ∙ e),
    λ e. answer ∙ store_ways (kept sp w) o (λ a. number_in a ≡ 40) (λ s. refl) (λ s l. absurd (false≢true (sym e ∙ s))) (λ s l. absurd (false≢true (sym e ∙ s))),
  )

  -- 41 exactly where it can, and the output is shorter than its blocks
  pub store_41 : r ≡ 41 ↔ ((is_storable (kept sp w) ≡ true) × (length o < length (backup (kept sp w))))
  unfolding number_in
  store_41 = (
    λ e. store_ways (kept sp w) o (λ a. number_in a ≡ 41 → (is_storable (kept sp w) ≡ true) × (length o < length (backup (kept sp w))))
        (λ s n. absurd (omega arith)) (λ s l n. (s, l)) (λ s l n. absurd (omega arith)) (sym answer ∙ e),
    λ e. answer ∙ store_ways (kept sp w) o (λ a. number_in a ≡ 41) (λ s. absurd (false≢true (sym s ∙ e.0))) (λ s l. refl) (λ s l. absurd (omega (arith, e.1))),
  )

  -- 0 exactly where it can and all blocks have room
  pub store_0 : r ≡ 0 ↔ ((is_storable (kept sp w) ≡ true) × (length (backup (kept sp w)) ≤ length o))
  unfolding number_in
  store_0 = (
    λ e. store_ways (kept sp w) o (λ a. number_in a ≡ 0 → (is_storable (kept sp w) ≡ true) × (length (backup (kept sp w)) ≤ length o))
        (λ s n. absurd (omega arith)) (λ s l n. absurd (omega arith)) (λ s l n. (s, l)) (sym answer ∙ e),
    λ e. answer ∙ store_ways (kept sp w) o (λ a. number_in a ≡ 0) (λ s. absurd (false≢true (sym s ∙ e.0))) (λ s l. absurd (omega (arith, e.1))) (λ s l. refl),
  )

  -- what is accepted is the number of its bytes
  stored_is : r ≡ 0 → storing (kept sp w) o ≡ accepted (length (backup (kept sp w)))
  unfolding number_in
  stored_is e =
      store_ways (kept sp w) o (λ a. number_in a ≡ 0 → a ≡ accepted (length (backup (kept sp w)))) (λ s n. absurd (omega arith)) (λ s l n. absurd (omega arith)) (λ s l n. refl) (sym answer ∙ e)

  -- a refusal leaves the output as it was
  pub store_refusal_keeps : (u : List ℕ) → u ≡ after_storing (kept sp w) o → (r ≡ 0 → ⊥) → u ≡ o
  unfolding number_in
  store_refusal_keeps u after e = after ∙ by (storing (kept sp w) o) refl
    where
      by : (a : Answer ℕ) → storing (kept sp w) o ≡ a → after_storing (kept sp w) o ≡ o
      by (accepted n) g = absurd (e (answer ∙ rw g))
      by (refused f) g = laws.storing_refused (kept sp w) o f g

-- planksling_backup_read
module _ (b o : List ℕ) {r : ℕ} (answer : r ≡ number_in (restoring b o)) where
  -- 42 exactly where the length is no positive multiple of 512
  pub read_42 : r ≡ 42 ↔ (is_whole b ≡ false)
  unfolding number_in
  read_42 = (
    λ e. read_ways b o (λ a. number_in a ≡ 42 → is_whole b ≡ false) (λ s n. s) (λ f s t n. absurd (bad_number b f t 42 n (λ m. omega arith) (λ m. omega arith)))
        (λ s l n. absurd (omega arith)) (λ s l n. absurd (omega arith)) (sym answer ∙ e),
    λ e. answer ∙ read_ways b o (λ a. number_in a ≡ 42) (λ s. refl) (λ f s t. absurd (false≢true (sym e ∙ s))) (λ s l. absurd (false≢true (sym e ∙ sound_whole b s))) (λ s l. absurd (false≢true (sym e ∙ sound_whole b s))),
  )

  -- where a block is bad, the cause of the first one at its position: 43 or 44
  pub read_bad : (f : Fault) (p q : ℕ) → p ≡ place_after (restoring b o) q → is_whole b ≡ true → first_bad 0 (blocks_in b) (space b) b ≡ some f
      → (r ≡ f.number) × (p ≡ f.place) × ((r ≡ 43) ⊎ (r ≡ 44)) × (p < blocks_in b)
  unfolding number_in place_after
  read_bad f p q place s t =
      let g = bad_refused b f t o s in
      let m = bad_among (blocks_in b) 0 (space b) b f t in
      let n : r ≡ f.number = answer ∙ rw g in
      let i : p ≡ f.place = place ∙ rw g in
      (n, i, ⊎_elim (λ e. inl (n ∙ e)) (λ e. inr (n ∙ e)) m.number, omega (arith, i, m.high))

  -- 41 exactly where all blocks are good and the output is shorter than the window's bytes
  pub read_41 : r ≡ 41 ↔ ((fault_in b ≡ none) × (length o < length (window_in b).bytes))
  unfolding number_in
  read_41 = (
    λ e. read_ways b o (λ a. number_in a ≡ 41 → (fault_in b ≡ none) × (length o < length (window_in b).bytes))
        (λ s n. absurd (omega arith)) (λ f s t n. absurd (bad_number b f t 41 n (λ m. omega arith) (λ m. omega arith))) (λ s l n. (s, l)) (λ s l n. absurd (omega arith)) (sym answer ∙ e),
    λ e. answer ∙ read_ways b o (λ a. number_in a ≡ 41) (λ s. absurd (false≢true (sym s ∙ sound_whole b e.0))) (λ f s t. absurd (unsound b f t e.0 s))
        (λ s l. refl) (λ s l. absurd (omega (arith, e.1))),
  )

  -- 0 exactly where all blocks are good and the window's bytes have room
  pub read_0 : r ≡ 0 ↔ ((fault_in b ≡ none) × (length (window_in b).bytes ≤ length o))
  unfolding number_in
  read_0 = (
    λ e. read_ways b o (λ a. number_in a ≡ 0 → (fault_in b ≡ none) × (length (window_in b).bytes ≤ length o))
        (λ s n. absurd (omega arith)) (λ f s t n. absurd (bad_number b f t 0 n (λ m. omega arith) (λ m. omega arith))) (λ s l n. absurd (omega arith)) (λ s l n. (s, l)) (sym answer ∙ e),
    λ e. answer ∙ read_ways b o (λ a. number_in a ≡ 0) (λ s. absurd (false≢true (sym s ∙ sound_whole b e.0))) (λ f s t. absurd (unsound b f t e.0 s))
        (λ s l. absurd (omega (arith, e.1))) (λ s l. refl),
  )

  read_is : r ≡ 0 → restoring b o ≡ accepted (restored (window_in b))
  unfolding number_in
  read_is e =
      read_ways b o (λ a. number_in a ≡ 0 → a ≡ accepted (restored (window_in b))) (λ s n. absurd (omega arith)) (λ f s t n. absurd (bad_number b f t 0 n (λ m. omega arith) (λ m. omega arith)))
      (λ s l n. absurd (omega arith)) (λ s l n. refl) (sym answer ∙ e)

  -- a refusal leaves the output as it was
  pub read_refusal_keeps : (u : List ℕ) → u ≡ after_restoring b o → (r ≡ 0 → ⊥) → u ≡ o
  unfolding number_in
  read_refusal_keeps u after e = after ∙ by (restoring b o) refl
    where
      by : (a : Answer Restored) → restoring b o ≡ a → after_restoring b o ≡ o
      by (accepted n) g = absurd (e (answer ∙ rw g))
      by (refused f) g = laws.restoring_refused b o f g

-- ── 2: what was stored reads back, any change of a single byte is noticed, and a window has one backup ──

-- storing the window w, of space sp, into the output o was accepted: n bytes of the output u are the backup
module _ (sp : ℕ) (w o u : List ℕ) (n before : ℕ) {r : ℕ} (answer : r ≡ number_in (storing (kept sp w) o)) (size : n ≡ value_after (λ k. k) (storing (kept sp w) o) before)
    (after : u ≡ after_storing (kept sp w) o) (ok : r ≡ 0) where
  is_stored : storing (kept sp w) o ≡ accepted n
  unfolding value_after
  is_stored = let e = stored_is sp w o answer ok in e ∙ ap (λ (k : ℕ). accepted k) (sym (size ∙ rw e))

  -- reading these bytes into an output v with room for the window is accepted: it tells the window's length and space, and puts its bytes to the front
  module _ (v x : List ℕ) (room : length w ≤ length v) (l₀ s₀ : ℕ) {q l s : ℕ} (told : q ≡ number_in (restoring (take n u) v))
      (long : l ≡ value_after (λ (a : Restored). a.size) (restoring (take n u) v) l₀) (from : s ≡ value_after (λ (a : Restored). a.space) (restoring (take n u) v) s₀)
      (left : x ≡ after_restoring (take n u) v) where
    reads : restoring (take n u) v ≡ accepted (restored (kept sp w))
    reads = ap (λ t. restoring (take n t) v) after ∙ laws.restores (kept sp w) o n is_stored v room

    pub reads_back : (q ≡ 0) × (l ≡ length w) × (s ≡ sp) × (x ≡ w ++ drop (length w) v)
    unfolding number_in value_after restored
    reads_back =
        (told ∙ rw reads, long ∙ rw reads, from ∙ rw reads, left ∙ ap (λ t. after_restoring (take n t) v) after ∙ laws.restores_bytes (kept sp w) o n is_stored v room)

  -- with another byte c at any place p of them, reading is refused with 43 at the block of that place, whatever the output
  pub change_noticed : Bytes w → (p c : ℕ) → p < n → c < 256 → (c ≡ get_or u p 0 → ⊥) → (v : List ℕ) (p₀ : ℕ) {q i : ℕ} → q ≡ number_in (restoring (set (take n u) p c) v)
      → i ≡ place_after (restoring (set (take n u) p c) v) p₀ → (q ≡ 43) × (i ≡ p / 512)
  unfolding number_in place_after
  change_noticed b p c h small other v p₀ told place =
      let e : restoring (set (take n u) p c) v ≡ refused (fault 43 (p / 512))
      = ap (λ t. restoring (set (take n t) p c) v) after ∙ laws.change_noticed (kept sp w) o n is_stored b v p c h small (λ z. other (z ∙ ap (λ t. get_or t p 0) (sym after))) in
      (told ∙ rw e, place ∙ rw e)

-- reading the backup b into the output v was accepted: it told length l and space s, and left the output x
pub record Back (b v : List ℕ) (l s : ℕ) (x : List ℕ) : Type 0 where
  pub result : ℕ
  pub told : result ≡ number_in (restoring b v)
  pub ok : result ≡ 0
  pub lent : ℕ
  pub long : l ≡ value_after (λ (a : Restored). a.size) (restoring b v) lent
  pub given : ℕ
  pub from : s ≡ value_after (λ (a : Restored). a.space) (restoring b v) given
  pub left : x ≡ after_restoring b v

told_back : (b v : List ℕ) (l s : ℕ) (x : List ℕ) → Back b v l s x → restoring b v ≡ accepted (record { size = l; space = s })
unfolding value_after restored
told_back b v l s x h =
    let e = read_is b v h.told h.ok in
    let p : l ≡ length (window_in b).bytes = h.long ∙ rw e in
    let q : s ≡ (window_in b).space = h.from ∙ rw e in
    let t : restored (window_in b) ≡ record { size = l; space = s } = cc in
    e ∙ ap (λ (a : Restored). accepted a) t

-- two backups that read back to the same are the same
pub one_backup : (b c v : List ℕ) (l s : ℕ) (x : List ℕ) → Bytes b → Bytes c → Back b v l s x → Back c v l s x → b ≡ c
one_backup b c v l s x h i p q = laws.read_once b c v (record { size = l; space = s }) h i (told_back b v l s x p) (told_back c v l s x q) (sym p.left ∙ q.left)
