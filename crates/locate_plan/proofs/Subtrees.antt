-- Records as data elements: what their ranges say, and that the steps which bound the definitions make no difference where they are enough.
use mathlib.Core.Path.{◌≡◌, refl, sym, ap, ap₂, ◌∙◌}
use mathlib.Core.List.{List}
use mathlib.Core.Bool.{Bool, true, false, cond, ◌&&◌}
use Prim.Native.Nat.{ℕ, zero, suc, ◌+◌, ◌≤◌, ◌<◌}
use native.Mathlib.Omega.{arith}
use native.Mathlib.Decide.{dec_lt, ℕ_discrete}
use borrow.Author.Tests.{lt-ltb, le-ltb, eq-eqb, ne_eqb}
use lib.Dec.{eqb, leb}
use lib.IntN.{ℤ}
use Rattle.cdi.specs.Rules.{natural}
use Rattle.cdi.specs.Walk.{Items, records, steps}
use Rattle.cdi.specs.Walk.Items.{no_items, variable, group}
use Rattle.cdi.specs.Plans.{field, kind_of, replication_of, next_of, size_fits, offset_fits, replication_fits, place_fits, next_fits, item_fits, told, item_of, items_from, items_good}
use Rattle.cdi.proofs.Tests.{parts}
use Rattle.locate_rows.proofs.Numbers.{in_of, only_of}

-- ── ranges ──

pub record Ranged (t : List ℤ) (i e : ℕ) : Type 0 where
  pub one : 1 ≤ replication_of t i
  pub most : replication_of t i ≤ 2147483647
  pub ahead : i < next_of t i
  pub nests : next_of t i ≤ e
  pub alone : (kind_of t i ≡ 2 → ⊥) → next_of t i ≡ i + 1

replicates : (k : ℕ) (z : ℤ) → replication_fits k z ≡ true → (1 ≤ natural z) × (natural z ≤ 2147483647)
unfolding replication_fits
replicates k z h = by (ℕ_discrete k 2)
  where
    by : Dec (k ≡ 2) → (1 ≤ natural z) × (natural z ≤ 2147483647)
    by (yes e) = let p = in_of 1 2147483647 z (rw (eq-eqb k 2 e) at h) in (p.0, p.1)
    by (no e) = let p = only_of 1 z (rw (ne_eqb k 2 e) at h) in (omega arith, omega arith)

ends_inside : (k i e : ℕ) (z : ℤ) → i < e → next_fits (eqb k 2) i e z ≡ true → (i < natural z) × (natural z ≤ e)
unfolding next_fits
ends_inside k i e z b h = by (ℕ_discrete k 2)
  where
    by : Dec (k ≡ 2) → (i < natural z) × (natural z ≤ e)
    by (yes q) = let p = in_of (i + 1) e z (rw (eq-eqb k 2 q) at h) in (omega arith, p.1)
    by (no q) = let p = only_of (i + 1) z (rw (ne_eqb k 2 q) at h) in (omega arith, omega arith)

ends_alone : (k i e : ℕ) (z : ℤ) → next_fits (eqb k 2) i e z ≡ true → (k ≡ 2 → ⊥) → natural z ≡ i + 1
unfolding next_fits
ends_alone k i e z h q = only_of (i + 1) z (rw (ne_eqb k 2 q) at h)

pub ranged : (t : List ℤ) (i e : ℕ) → i < e → item_fits t i e ≡ true → Ranged t i e
unfolding item_fits
ranged t i e b h =
    let k = kind_of t i in
    let R = replication_fits k (field t i 4) in
    let N = next_fits (eqb k 2) i e (field t i 5) in
    let p = parts (size_fits k (field t i 3)) (place_fits t i && (offset_fits (field t i 2) && (R && N))) h in
    let q = parts (place_fits t i) (offset_fits (field t i 2) && (R && N)) p.1 in
    let r = parts (offset_fits (field t i 2)) (R && N) q.1 in
    let s = parts R N r.1 in
    let c = replicates k (field t i 4) s.0 in
    let n = ends_inside k i e (field t i 5) b s.1 in
    record { one = c.0; most = c.1; ahead = n.0; nests = n.1; alone = ends_alone k i e (field t i 5) s.1 }

-- ── no record left, or one more ──

pub items_out : (t : List ℤ) (k i e : ℕ) → e ≤ i → items_from t k i e ≡ no_items
unfolding items_from
items_out t zero i e h = refl
items_out t (suc k) i e h = rw (le-ltb i e h, items_from)

pub good_out : (t : List ℤ) (k d i e : ℕ) → e ≤ i → items_good t k d i e ≡ true
unfolding items_good
good_out t zero d i e h = refl
good_out t (suc k) d i e h = rw (le-ltb i e h, items_good)

module _ (t : List ℤ) (k i e : ℕ) (b : i < e) where
  pub items_more : items_from t (suc k) i e ≡ item_of t i (items_from t k (i + 1) (next_of t i)) (items_from t k (next_of t i) e)
  unfolding items_from
  items_more = rw (lt-ltb i e b, items_from)

  pub good_more : (d : ℕ) → items_good t (suc k) d i e
      ≡ leb d 24 && (item_fits t i e && (items_good t k (d + 1) (i + 1) (next_of t i)
      && (told t i (steps i (item_of t i (items_from t k (i + 1) (next_of t i)) no_items)) && items_good t k d (next_of t i) e)))
  unfolding items_good
  good_more d = rw (lt-ltb i e b, items_good)

-- what a good record tells
module _ (t : List ℤ) (k d i e : ℕ) (b : i < e) (h : items_good t (suc k) d i e ≡ true) where
  all : (item_fits t i e ≡ true) × (items_good t k (d + 1) (i + 1) (next_of t i) ≡ true)
      × (told t i (steps i (item_of t i (items_from t k (i + 1) (next_of t i)) no_items)) ≡ true) × (items_good t k d (next_of t i) e ≡ true)
  all =
      let M = items_good t k (d + 1) (i + 1) (next_of t i) in
      let T = told t i (steps i (item_of t i (items_from t k (i + 1) (next_of t i)) no_items)) in
      let F = items_good t k d (next_of t i) e in
      let p = parts (leb d 24) (item_fits t i e && (M && (T && F))) (sym (good_more t k i e b d) ∙ h) in
      let q = parts (item_fits t i e) (M && (T && F)) p.1 in
      let r = parts M (T && F) q.1 in
      let s = parts T F r.1 in
      (q.0, r.0, s.0, s.1)

  pub good_fits : item_fits t i e ≡ true
  good_fits = all.0

  pub good_members : items_good t k (d + 1) (i + 1) (next_of t i) ≡ true
  good_members = all.1

  pub good_told : told t i (steps i (item_of t i (items_from t k (i + 1) (next_of t i)) no_items)) ≡ true
  good_told = all.2

  pub good_following : items_good t k d (next_of t i) e ≡ true
  good_following = all.3

-- ── enough steps are enough ──

pub record Same (t : List ℤ) (k k' d i e : ℕ) : Type 0 where
  pub good : items_good t k d i e ≡ items_good t k' d i e
  pub items : items_good t k d i e ≡ true → items_from t k i e ≡ items_from t k' i e

same_out : (t : List ℤ) (k k' d i e : ℕ) → e ≤ i → Same t k k' d i e
same_out t k k' d i e h = record {
  good = good_out t k d i e h ∙ sym (good_out t k' d i e h);
  items = λ g. items_out t k i e h ∙ sym (items_out t k' i e h);
}

-- five tests in a row that agree as far as they pass
agree : (a b m m' t t' f f' : Bool) → (b ≡ true → m ≡ m') → (b ≡ true → m ≡ true → t ≡ t') → (b ≡ true → f ≡ f')
    → a && (b && (m && (t && f))) ≡ a && (b && (m' && (t' && f')))
agree false b m m' t t' f f' p q r = refl
agree true false m m' t t' f f' p q r = refl
agree true true true m' t t' f f' p q r = rw (← (p refl), ← (q refl refl), ← (r refl))
agree true true false m' t t' f f' p q r = rw (← (p refl))

pub same_steps : (t : List ℤ) (k k' d i e : ℕ) → e ≤ i + k → e ≤ i + k' → Same t k k' d i e
same_steps t zero k' d i e h h' = same_out t zero k' d i e (omega arith)
same_steps t (suc k) zero d i e h h' = same_out t (suc k) zero d i e (omega arith)
same_steps t (suc k) (suc k') d i e h h' =
    by (dec_lt i e) (λ x l n. same_steps t k k' (d + 1) (i + 1) x (omega arith) (omega arith)) (λ x l n. same_steps t k k' d x e (omega arith) (omega arith))
  where
    x : ℕ
    x = next_of t i

    by : Dec (i < e) → ((y : ℕ) → i < y → y ≤ e → Same t k k' (d + 1) (i + 1) y) → ((y : ℕ) → i < y → y ≤ e → Same t k k' d y e) → Same t (suc k) (suc k') d i e
    by (no b) inner outer = same_out t (suc k) (suc k') d i e (omega arith)
    by (yes b) inner outer = record {
      good =
          good_more t k i e b d
          ∙ agree (leb d 24) (item_fits t i e) (items_good t k (d + 1) (i + 1) x) (items_good t k' (d + 1) (i + 1) x)
          (told t i (steps i (item_of t i (items_from t k (i + 1) x) no_items))) (told t i (steps i (item_of t i (items_from t k' (i + 1) x) no_items)))
          (items_good t k d x e) (items_good t k' d x e)
          (λ f. (members f).good) (λ f g. ap (λ (m : Items). told t i (steps i (item_of t i m no_items))) ((members f).items g)) (λ f. (following f).good)
          ∙ sym (good_more t k' i e b d);
      items = λ g.
          let f = good_fits t k d i e b g in
          items_more t k i e b
          ∙ ap₂ (λ (m r : Items). item_of t i m r) ((members f).items (good_members t k d i e b g)) ((following f).items (good_following t k d i e b g))
          ∙ sym (items_more t k' i e b);
    }
      where
        members : item_fits t i e ≡ true → Same t k k' (d + 1) (i + 1) x
        members f = let r = ranged t i e b f in inner x r.ahead r.nests

        following : item_fits t i e ≡ true → Same t k k' d x e
        following f = let r = ranged t i e b f in outer x r.ahead r.nests

-- ── the data elements of good records are as many as the records ──

record_of : (t : List ℤ) (i : ℕ) (m r : Items) → records (item_of t i m r) ≡ 1 + cond (eqb (kind_of t i) 2) (records m) 0 + records r
unfolding item_of records
record_of t i m r = by (eqb (kind_of t i) 2)
  where
    by : (g : Bool) → records (cond g (group (natural (field t i 1)) (field t i 2) (natural (field t i 4)) m r) (variable (natural (field t i 0)) (natural (field t i 1)) (field t i 2) (natural (field t i 3)) r))
        ≡ 1 + cond g (records m) 0 + records r
    by true = refl
    by false = omega arith

pub records_between : (t : List ℤ) (k d i e : ℕ) → i ≤ e → e ≤ i + k → items_good t k d i e ≡ true → i + records (items_from t k i e) ≡ e
unfolding records
records_between t zero d i e b h g = rw (items_out t zero i e (omega arith)) (omega arith)
records_between t (suc k) d i e b h g =
    by (dec_lt i e)
    (λ x l n. records_between t k (d + 1) (i + 1) x (omega arith) (omega arith))
    (λ x l n. records_between t k d x e n (omega arith))
  where
    x : ℕ
    x = next_of t i

    by : Dec (i < e)
        → ((y : ℕ) → i < y → y ≤ e → items_good t k (d + 1) (i + 1) y ≡ true → i + 1 + records (items_from t k (i + 1) y) ≡ y)
        → ((y : ℕ) → i < y → y ≤ e → items_good t k d y e ≡ true → y + records (items_from t k y e) ≡ e)
        → i + records (items_from t (suc k) i e) ≡ e
    by (no c) inner outer = rw (items_out t (suc k) i e (omega arith)) (omega arith)
    by (yes c) inner outer =
        let r = ranged t i e c (good_fits t k d i e c g) in
        let m = inner x r.ahead r.nests (good_members t k d i e c g) in
        let f = outer x r.ahead r.nests (good_following t k d i e c g) in
        rw (items_more t k i e c, record_of) (own (ℕ_discrete (kind_of t i) 2) r m f)
      where
        own : Dec (kind_of t i ≡ 2) → Ranged t i e → i + 1 + records (items_from t k (i + 1) x) ≡ x → x + records (items_from t k x e) ≡ e
            → i + (1 + cond (eqb (kind_of t i) 2) (records (items_from t k (i + 1) x)) 0 + records (items_from t k x e)) ≡ e
        own (yes z) r m f = rw (eq-eqb (kind_of t i) 2 z) (omega arith)
        own (no z) r m f = rw (ne_eqb (kind_of t i) 2 z) (omega (arith, r.alone z))
