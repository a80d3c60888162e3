-- The names of elements: a child that a row knows is one of the 23, and its number leads back to its row.
use mathlib.Core.Path.{◌≡◌, refl}
use mathlib.Core.List.{List, [], ◌∷◌}
use mathlib.Core.Bool.{Bool, true, false, cond, not, ◌&&◌, ◌||◌}
use mathlib.Core.Option.{some}
use Prim.Native.Nat.{ℕ, ◌+◌, ◌-◌, ◌≤◌}
use native.Mathlib.Omega.{arith}
use borrow.Author.Tests.{not-true}
use lib.ListN.{get_or}
use lib.Dec.{eqb, leb}
use Rattle.cdi.specs.Lists.{ascii, all, same, among, lists_page}
use Rattle.cdi.specs.Faults.{unless}
use Rattle.cdi.specs.Tree.{Nodes}
use Rattle.cdi.specs.Rows.{ChildRule, Row, rows, text_row, row_among, row_of, document_row, rows_page}
use Rattle.cdi.specs.Rules.{entry_from, entry_of, missing_faults, number_names}
use Rattle.cdi.proofs.Quiet.{impossible, same_equal, Each, among_each}
use Rattle.cdi.proofs.Tests.{both_left, both_right}
use Rattle.names.specs.Names.{element_names, element_number}
use Rattle.rules_judge.specs.Judging.{row_at, judging_page}

each_all : (p : List ℕ → Bool) (ts : List (List ℕ)) → all p ts ≡ true → Each (λ t. p t ≡ true) ts
unfolding all Each
each_all p [] e = tt
each_all p (t ∷ ts) e = (both_left (p t) (all p ts) e, each_all p ts (both_right (p t) (all p ts) e))

-- A test that every text of the list passes is passed by a text found among them.
among_all : (p : List ℕ → Bool) (x : List ℕ) (ts : List (List ℕ)) → all p ts ≡ true → among x ts ≡ true → p x ≡ true
among_all p x ts e = among_each (λ t. p t ≡ true) x ts (each_all p ts e)

-- ── a child that a row knows ──

is_listed : List ℕ → Bool
is_listed n = among n element_names

are_listed : List ChildRule → Bool
are_listed cs = all (λ c. all is_listed c.names) cs

entry_listed : (i : ℕ) (cs : List ChildRule) (n : List ℕ) (e : ℕ × Bool) → are_listed cs ≡ true → entry_from i cs n ≡ some e → is_listed n ≡ true
unfolding are_listed all entry_from
entry_listed i [] n e h q = impossible (cc)
entry_listed i (c ∷ cs) n e h q = by (among n c.names) refl (entry_listed (i + 1) cs n e (both_right (all is_listed c.names) _ h))
  where
    by : (t : Bool) → among n c.names ≡ t → (entry_from (i + 1) cs n ≡ some e → is_listed n ≡ true) → is_listed n ≡ true
    by true a others = among_all is_listed n c.names (both_left _ (are_listed cs) h) a
    by false a others = others (rw a at q)

-- Entries are counted from i.
entry_counted : (i : ℕ) (cs : List ChildRule) (n : List ℕ) (e : ℕ × Bool) → entry_from i cs n ≡ some e → i ≤ e.0
unfolding entry_from
entry_counted i [] n e q = impossible (cc)
entry_counted i (c ∷ cs) n e q = by (among n c.names) refl (entry_counted (i + 1) cs n e)
  where
    first : some (i, c.many) ≡ some e → i ≡ e.0
    first q = cc

    by : (t : Bool) → among n c.names ≡ t → (entry_from (i + 1) cs n ≡ some e → i + 1 ≤ e.0) → i ≤ e.0
    by true a others = let z = first (rw a at q) in omega arith
    by false a others = let z = others (rw a at q) in omega arith

among_listed : (rs : List Row) (n : List ℕ) → all (λ r. are_listed r.children) rs ≡ true → are_listed (row_among rs n).children ≡ true
unfolding row_among text_row all are_listed
among_listed [] n h = refl
among_listed (r ∷ rs) n h = by (same n r.name) refl (among_listed rs n (both_right (are_listed r.children) _ h))
  where
    by : (t : Bool) → same n r.name ≡ t → are_listed (row_among rs n).children ≡ true → are_listed (cond (same n r.name) r (row_among rs n)).children ≡ true
    by true a others = rw a (both_left _ (all (λ r. are_listed r.children) rs) h)
    by false a others = rw a others

rows_listed : all (λ r. are_listed r.children) (document_row ∷ rows) ≡ true
unfolding lists_page rows_page judging_page is_listed are_listed
rows_listed = refl

row_listed : (k : ℕ) → are_listed (row_at k).children ≡ true
unfolding row_at row_of all
row_listed k = by (eqb k 0)
  where
    by : (t : Bool) → are_listed (cond t document_row (row_among rows (get_or element_names (k - 1) []))).children ≡ true
    by true = both_left _ (all (λ r. are_listed r.children) rows) rows_listed
    by false = among_listed rows _ (both_right (are_listed document_row.children) _ rows_listed)

-- ── what holds of the 23 names ──

-- what is known of a name by its number
pub record Numbered (n : List ℕ) : Type 0 where
  -- the number's row is the name's
  pub row : row_at (element_number n) ≡ row_of n
  -- its content is judged
  pub judged : eqb (element_number n) 24 ≡ false
  -- the numbers of those that hold a number inside an int
  pub numeric : among n number_names ≡ true → (leb 19 (element_number n) && leb (element_number n) 22) ≡ true
  -- only a relation needs children
  pub needless : same n (ascii "relation") ≡ false → (p : ℕ) (kids : Nodes) → missing_faults p (row_of n).children kids ≡ []

-- the same as tests
leads_back : List ℕ → Bool
leads_back n = not (eqb (element_number n) 0) && same (get_or element_names (element_number n - 1) []) n

is_numeric : List ℕ → Bool
is_numeric n = not (among n number_names) || (leb 19 (element_number n) && leb (element_number n) 22)

is_needless : List ℕ → Bool
is_needless n = same n (ascii "relation") || all (λ c. not c.needed) (row_of n).children

is_good : List ℕ → Bool
is_good n = leads_back n && (not (eqb (element_number n) 24) && (is_numeric n && is_needless n))

all_good : all is_good element_names ≡ true
unfolding lists_page rows_page judging_page is_good leads_back is_numeric is_needless number_names
all_good = refl

led_back : (n : List ℕ) → leads_back n ≡ true → row_at (element_number n) ≡ row_of n
unfolding leads_back row_at
led_back n h =
    let at = not-true (eqb (element_number n) 0) (both_left _ (same (get_or element_names (element_number n - 1) []) n) h) in
    let back = same_equal (get_or element_names (element_number n - 1) []) n (both_right (not (eqb (element_number n) 0)) _ h) in
    rw (at, back)

implied : (x y : Bool) → (not x || y) ≡ true → x ≡ true → y ≡ true
implied true y h e = h
implied false y h e = cc

needed_none : (cs : List ChildRule) → all (λ c. not c.needed) cs ≡ true → (p : ℕ) (kids : Nodes) → missing_faults p cs kids ≡ []
unfolding all missing_faults unless
needed_none [] h p kids = refl
needed_none (c ∷ cs) h p kids = rw (both_left (not c.needed) _ h) (needed_none cs (both_right (not c.needed) _ h) p kids)

good_numbered : (n : List ℕ) → is_good n ≡ true → Numbered n
unfolding is_good is_numeric is_needless
good_numbered n h =
    let others = both_right (leads_back n) _ h in
    let last = both_right (not (eqb (element_number n) 24)) _ others in
    record {
      row = led_back n (both_left _ (not (eqb (element_number n) 24) && (is_numeric n && is_needless n)) h);
      judged = not-true _ (both_left _ (is_numeric n && is_needless n) others);
      numeric = implied (among n number_names) _ (both_left _ (is_needless n) last);
      needless = λ q. needed_none (row_of n).children (rw q at (both_right (is_numeric n) _ last));
    }

-- A child that a row knows is one of the 23.
pub numbered : (k : ℕ) (n : List ℕ) (e : ℕ × Bool) → entry_of (row_at k) n ≡ some e → Numbered n
unfolding entry_of is_listed
numbered k n e q = good_numbered n (among_all is_good n element_names all_good (entry_listed 1 (row_at k).children n e (row_listed k) q))

-- Entries are counted from 1.
pub counted : (r : Row) (n : List ℕ) (e : ℕ × Bool) → entry_of r n ≡ some e → 1 ≤ e.0
unfolding entry_of
counted r n e q = entry_counted 1 r.children n e q

-- A child that a row knows has a number.
pub has_number : (k : ℕ) (n : List ℕ) (e : ℕ × Bool) → entry_of (row_at k) n ≡ some e → eqb (element_number n) 0 ≡ false
unfolding entry_of is_listed is_good leads_back
has_number k n e q =
    let good = among_all is_good n element_names all_good (entry_listed 1 (row_at k).children n e (row_listed k) q) in
    not-true _ (both_left _ (same (get_or element_names (element_number n - 1) []) n) (both_left _ (not (eqb (element_number n) 24) && (is_numeric n && is_needless n)) good))
