-- Numbers in bytes: the loops that store one and read one.
use mathlib.Core.Path.{◌≡◌, refl, sym, ap, ◌∙◌}
use mathlib.Core.List.{List, [], ◌∷◌, ◌++◌, append_assoc, append-nil}
use Prim.Native.Nat.{ℕ, zero, suc, ◌+◌, ◌-◌, ◌*◌, ◌/◌, ◌%◌, ◌^◌, ◌≤◌, ◌<◌}
use native.Mathlib.Nat.{pow-le-pow_right}
use native.Mathlib.Numerals.{add-one}
use native.Mathlib.Omega.{arith}
use borrow.Author.Rules.{rules}
use lib.Dec.{lit<}
use lib.ListN.{length, drop, get_or, set, length-set, drop_of_length-le}
use lib.Seq.{drop-length, drop-cons, get_or-set_same, drop-set-lt}
use Rattle.cdi.specs.Values.{bytes_of, value_from, value_of}
use Rattle.scan.proofs.Along.{drop_next}

-- ── storing ──

-- what is left of the number goes before place i, and from there on its bytes stand
pub record Stored (n number : ℕ) (part : List ℕ) (left i : ℕ) : Type 0 where
  pub size : length part ≡ n
  pub high : i ≤ n
  pub is : bytes_of n number ≡ bytes_of i left ++ drop i part

stored_at : (part : List ℕ) (j x : ℕ) → j < length part → drop j (set part j x) ≡ x ∷ drop (suc j) part
stored_at part j x h =
    drop-cons (set part j x) j 0 (rw length-set h) ∙ rw (get_or-set_same part j x 0 h, drop-set-lt (suc j) part j x (omega arith))

module _ {number : ℕ} {part : List ℕ} where
  pub none_stored : Stored (length part) number part number (length part)
  none_stored = record { size = refl; high = omega arith; is = sym (ap (λ (t : List ℕ). bytes_of (length part) number ++ t) (drop-length part) ∙ append-nil (bytes_of (length part) number)) }

  pub one_stored : {n : ℕ} (left i : ℕ) → Stored n number part left i → 0 < i → Stored n number (set part (i - 1) (left % 256)) (left / 256) (i - 1)
  unfolding bytes_of
  one_stored left zero v h = absurd (omega arith)
  one_stored left (suc j) v h =
      let e : suc j - 1 ≡ j = omega arith in
      rw e
      record {
        size = length-set part j (left % 256) ∙ v.size;
        high = omega (arith, v.high);
        is = v.is ∙ append_assoc (bytes_of j (left / 256)) (left % 256 ∷ []) (drop (suc j) part)
            ∙ ap (λ (t : List ℕ). bytes_of j (left / 256) ++ t) (sym (stored_at part j (left % 256) (omega (arith, v.size, v.high))));
      }

  pub all_stored : {n : ℕ} (left i : ℕ) → Stored n number part left i → i ≤ 0 → part ≡ bytes_of n number
  unfolding bytes_of
  all_stored left zero v h = sym v.is
  all_stored left (suc j) v h = absurd (omega arith)

pub ruleset storing = (none_stored, one_stored, all_stored, rules)

-- ── reading ──

-- the number of the first i bytes
pub record Read (part : List ℕ) (number i : ℕ) : Type 0 where
  pub few : length part ≤ 8
  pub small : number < 256 ^ i
  pub left : value_of part ≡ value_from number (drop i part)
  pub high : i ≤ length part

pub none_read : (part : List ℕ) → length part ≤ 8 → Read part 0 0
unfolding value_of
none_read part h = record { few = h; small = omega arith; left = refl; high = omega arith }

-- so many bytes leave room for one more
pub room_for_one : {i v : ℕ} → v < 256 ^ i → i < 8 → v < 2 ^ 56
room_for_one {i} {v} h l = omega (arith, pow-le-pow_right {n = 256} (lit< tt) {i = i} {j = 7} (omega arith))

module _ {part : List ℕ} {number i : ℕ} (v : Read part number i) where
  pub read_room : i < length part → number < 2 ^ 56
  read_room h = room_for_one v.small (omega (arith, v.few))

  pub one_read : {r : ℕ} → i < length part → r ≡ number * 256 + get_or part i 0 → get_or part i 0 < 256 → Read part r (i + 1)
  unfolding value_from
  one_read h e l = record {
    few = v.few;
    small = rw add-one (omega (arith, v.small));
    left = v.left ∙ rw (drop_next part i h, e);
    high = omega arith;
  }

  pub all_read : length part ≤ i → number ≡ value_of part
  unfolding value_from
  all_read h = sym (v.left ∙ rw (drop_of_length-le part h))

  pub read_small : length part ≤ i → number < 256 ^ length part
  read_small h = let e : i ≡ length part = omega (arith, v.high) in rw e at v.small

pub ruleset reading = (none_read, read_room, one_read, all_read, read_small, rules)
