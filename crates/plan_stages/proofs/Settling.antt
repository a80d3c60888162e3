-- Stages 8 to 12, one law for each way through the code.
use mathlib.Core.Path.{◌≡◌, refl}
use Prim.Native.Nat.{ℕ, ◌/◌, ◌%◌, ◌≤◌, ◌<◌}
use borrow.Author.Rules.{rules}
use borrow.Author.Tests.{le-leb, lt-leb, eq-eqb, ne_eqb}
use Rattle.std.specs.Prelude.{Some, None, Result, Ok, Err}
use Rattle.keys.specs.Keys.{number_of}
use Rattle.keys.proofs.Keying.{no_fault, a_fault}
use Rattle.rules_judge.specs.Judging.{Least, to_least}
use Rattle.tally_tag.specs.Tallying.{Leaves}
use Rattle.judges_state.specs.Decoded.{least_in}
use Rattle.tallies_state.specs.Flat.{leaves_of}
use Rattle.refusals.specs.declared.Refusal.{Refusal}
use Rattle.refusals.specs.Refusals.{refusal}
use Rattle.plan_stages.specs.Outlines.{sizes, counted_by, addressed_by, ruled_by}

module _ (n v root : ℕ) where
  pub few_enough : v ≤ 1000000 → Ok (sizes n v) ≡ counted_by n v root
  unfolding counted_by
  few_enough h = rw (le-leb v 1000000 h)

  pub too_many : 1000000 < v → Err (refusal 12 root) ≡ counted_by n v root
  unfolding counted_by
  too_many h = rw (lt-leb v 1000000 h)

module _ {A : Type 0} (r : Result A Refusal) where
  pub leaves_at : (p : ℕ) → (p ≡ 18446744073709551615 → ⊥) → Err (refusal 11 p) ≡ addressed_by (leaves_of p) r
  unfolding addressed_by leaves_of
  leaves_at p e = rw (ne_eqb p 18446744073709551615 e)

  pub leaves_never : (p : ℕ) → p ≡ 18446744073709551615 → r ≡ addressed_by (leaves_of p) r
  unfolding addressed_by leaves_of
  leaves_never p e = rw (eq-eqb p 18446744073709551615 e)

  pub faulty : (k : ℕ) {n : ℕ} → (k ≡ 18446744073709551615 → ⊥) → n ≡ number_of (k % 128) → Err (refusal n (k / 128)) ≡ ruled_by (least_in k) r
  unfolding ruled_by least_in to_least
  faulty k e f = rw (a_fault k e, f)

  pub faultless : (k : ℕ) → k ≡ 18446744073709551615 → r ≡ ruled_by (least_in k) r
  unfolding ruled_by least_in to_least
  faultless k e = rw (no_fault k e)

-- a stage before the last one: its refusal is the answer, and without one the next stage answers
module _ {A : Type 0} (next : Result A Refusal) where
  pub rules_refuse : {r : Refusal} (l : Least) → Err r ≡ ruled_by l (Ok (tt {0})) → Err r ≡ ruled_by l next
  unfolding ruled_by
  rules_refuse (Some f) e = cc
  rules_refuse None e = absurd (cc)

  pub rules_pass : {y : Unit {0}} (l : Least) → Ok y ≡ ruled_by l (Ok (tt {0})) → next ≡ ruled_by l next
  unfolding ruled_by
  rules_pass (Some f) e = absurd (cc)
  rules_pass None e = refl

  pub addresses_refuse : {r : Refusal} (m : Leaves) → Err r ≡ addressed_by m (Ok (tt {0})) → Err r ≡ addressed_by m next
  unfolding addressed_by
  addresses_refuse (Some p) e = cc
  addresses_refuse None e = absurd (cc)

  pub addresses_pass : {y : Unit {0}} (m : Leaves) → Ok y ≡ addressed_by m (Ok (tt {0})) → next ≡ addressed_by m next
  unfolding addressed_by
  addresses_pass (Some p) e = absurd (cc)
  addresses_pass None e = refl

pub ruleset stages_passed = (rules_refuse, rules_pass, addresses_refuse, addresses_pass)

pub ruleset settling = (few_enough, too_many, leaves_at, leaves_never, faulty, faultless, rules)
