-- At level 2: the data elements of a segment or a group, of which what is held of the walk and the records are known behind them.
use mathlib.Core.Path.{◌≡◌, refl, sym, ap, ap₂, ◌∙◌}
use mathlib.Core.List.{List, [], ◌∷◌, ◌++◌, append_assoc, append-nil}
use mathlib.Core.Bool.{Bool, true, false, ◌||◌}
use Prim.Native.Nat.{ℕ, ◌+◌, ◌*◌}
use native.Mathlib.Omega.{arith}
use lib.IntN.{ℤ, pos}
use lib.Seq.{sets}
use Rattle.cdi.specs.Lists.{ascii, any, among}
use Rattle.cdi.specs.Pieces.{Attribute}
use Rattle.cdi.specs.Tree.{Nodes}
use Rattle.cdi.specs.Tree.Nodes.{end, element, other}
use Rattle.cdi.specs.Rows.{Row, row_of, data_names}
use Rattle.cdi.specs.Rules.{natural, Before, nothing_before, behind, is_int, faults_in}
use Rattle.cdi.specs.Walk as W
use Rattle.cdi.specs.Walk.{Items, Step, records, copies, steps}
use Rattle.cdi.specs.Walk.Step.{add, stand}
use Rattle.cdi.specs.Planning.{number_or, offset_of, variable_kind, variable_size, items_of}
use Rattle.cdi.proofs.Ranges.{DataFits, judged, judged_other, kept, data_fits}
use Rattle.extent.specs.Reach.{nowhere, by_offset, by_size, by_step, join, extent_of, held}
use Rattle.extent.specs.declared.Extent.{Extent}
use Rattle.extent.proofs.Joins.{size_sound, join_nowhere}
use Rattle.extent.proofs.Holding.{held_join, held_append, held_copies}
use Rattle.tally_tag.specs.Tallying.{Leaves, Tallied, numbers_of, is_group, kind_of, own_extent, record_of, tally_nodes}
use Rattle.tally.proofs.Levels.{tally, tallied, group_tallied, variable_tallied, other_tallied}
use Rattle.tally.proofs.Tags.{offset_told, size_told, replication_least, replication_told}
use Rattle.tally.proofs.Parts.{sets_append, sets_three}
use Rattle.tally.proofs.Rows.{held_fields, held_items, length_held, Repeated}

-- ── the extent of one data element is what is held of its own walk ──

abbrev replication_of : List Attribute → ℕ
replication_of s = natural (number_or (pos 1) (ascii "replication") s)

module _ (n : List ℕ) (s : List Attribute) (h : DataFits n s) where
  own_group : is_group n ≡ true → (ms : List Step) → own_extent n (numbers_of n s) (held (extent_of ms)) ≡ held (extent_of (add (offset_of s) ∷ (copies (replication_of s) ms ++ [])))
  unfolding own_extent extent_of by_step
  own_group q ms =
      rw (q, offset_told n s h, replication_told n s h q, held_copies (replication_of s) ms (replication_least n s h q))
      (held_join (by_offset (offset_of s)) (extent_of (copies (replication_of s) ms)))
      ∙ ap (λ (x : List Step). held (extent_of (add (offset_of s) ∷ x))) (sym (append-nil (copies (replication_of s) ms)))

  own_variable : is_group n ≡ false → (k i : ℕ) (e : Extent) → own_extent n (numbers_of n s) e ≡ held (extent_of (add (offset_of s) ∷ stand k i (variable_size n s) ∷ []))
  unfolding own_extent extent_of by_step
  own_variable q k i e =
      rw (q, offset_told n s h, size_told n s h q, join_nowhere (by_size (variable_size n s)) (size_sound (variable_size n s)))
      (held_join (by_offset (offset_of s)) (by_size (variable_size n s)))

  module _ (e : Extent) (i j m : ℕ) (l : Leaves) (p : ℕ) where
    record_group : is_group n ≡ true → (ms : List Step)
        → record_of (tally e 2 i m l) p n s (tally (held (extent_of ms)) 2 j m l) ≡ held_fields 2 p (offset_of s) 0 (replication_of s) j (add (offset_of s) ∷ (copies (replication_of s) ms ++ []))
    unfolding record_of kind_of held_fields
    record_group q ms = rw (own_group q ms, q, offset_told n s h, replication_told n s h q)

    record_variable : is_group n ≡ false → (k : ℕ) (f : Extent)
        → record_of (tally e 2 i m l) p n s (tally f 3 j m l) ≡ held_fields (variable_kind n) p (offset_of s) (variable_size n s) 1 j (add (offset_of s) ∷ stand k i (variable_size n s) ∷ [])
    unfolding record_of kind_of held_fields
    record_variable q k f = rw (own_variable q k i f, q, offset_told n s h, size_told n s h q)

group_data : (n : List ℕ) → is_group n ≡ true → among n data_names ≡ true
unfolding is_group among any data_names
group_data n q = rw q

nothing_held : held (extent_of []) ≡ nowhere
unfolding held extent_of nowhere
nothing_held = refl

-- ── data elements, from record i on, behind the steps ss ──

module _ (m : ℕ) (l : Leaves) where
  -- what is known behind these data elements
  abbrev after : List Step → ℕ → List ℤ → Items → Tallied
  after ss i t d = tallied (tally (held (extent_of (ss ++ steps i d))) 2 (i + records d) m l) (sets t (i * 8) (held_items i d))

  Told : Nodes → Type 0
  Told u = (ss : List Step) (i : ℕ) (t : List ℤ) → tally_nodes (tally (held (extent_of ss)) 2 i m l) t u ≡ after ss i t (items_of u)

  alike : {a b : List Step} {x y : ℕ} {v w : List ℤ} → a ≡ b → x ≡ y → v ≡ w → tallied (tally (held (extent_of a)) 2 x m l) v ≡ tallied (tally (held (extent_of b)) 2 y m l) w
  alike p q r = cc

  -- ── one data element, then what follows it ──

  module _ (ss : List Step) (i : ℕ) (t : List ℤ) where
    behind_group : (p : ℕ) (o : ℤ) (r : ℕ) (members following : Items)
        → (let j = i + 1 + records members in
        let own = steps i (W.group p o r members W.no_items) in
        after (ss ++ own) j (sets (sets t ((i + 1) * 8) (held_items (i + 1) members)) (i * 8) (held_fields 2 p o 0 r j own)) following)
        ≡ after ss i t (W.group p o r members following)
    unfolding steps records held_items held_fields
    behind_group p o r members following =
        let j = i + 1 + records members in
        let row = held_fields 2 p o 0 r j (steps i (W.group p o r members W.no_items)) in
        alike (simp append_assoc)
        (omega arith)
        (sets_three t (i * 8) ((i + 1) * 8) (j * 8) row (held_items (i + 1) members) (held_items j following) (omega arith) (omega (arith, length_held (i + 1) members)))

    behind_variable : (k p : ℕ) (o : ℤ) (n : ℕ) (following : Items)
        → (let own = steps i (W.variable k p o n W.no_items) in
        after (ss ++ own) (i + 1) (sets t (i * 8) (held_fields k p o n 1 (i + 1) own)) following)
        ≡ after ss i t (W.variable k p o n following)
    unfolding steps records held_items held_fields
    behind_variable k p o n following =
        let row = held_fields k p o n 1 (i + 1) (steps i (W.variable k p o n W.no_items)) in
        alike (simp append_assoc) (omega arith) (sym (sets_append t (i * 8) ((i + 1) * 8) row (held_items (i + 1) following) (omega arith)))

  -- ── the tree ──

  -- from the start of a segment or a group
  inside : (u : Nodes) → Told u → (i : ℕ) (t : List ℤ) → tally_nodes (tally nowhere 2 i m l) t u ≡ after [] i t (items_of u)
  unfolding Told
  inside u h i t = rw nothing_held at (h [] i t)

  module _ (p : ℕ) (n : List ℕ) (s : List Attribute) (kids following : Nodes) where
    group_told : DataFits n s → is_group n ≡ true → among n data_names ≡ true → Told kids → Told following → Told (element p n s kids following)
    unfolding Told items_of is_group steps
    group_told f q d k h ss i t =
        let ms = steps (i + 1) (items_of kids) in
        let j = i + 1 + records (items_of kids) in
        let own = add (offset_of s) ∷ (copies (replication_of s) ms ++ []) in
        let w = sets t ((i + 1) * 8) (held_items (i + 1) (items_of kids)) in
        rw q
        (group_tallied (held (extent_of ss)) i m l t p n s kids following q d (held (extent_of ms)) j w (inside kids k (i + 1) t)
        ∙ ap₂ (λ (e : Extent) (v : List ℤ). tally_nodes (tally e 2 j m l) v following)
        (ap (λ (e : Extent). held (join (held (extent_of ss)) e)) (own_group n s f q ms) ∙ held_append ss own)
        (ap (λ (v : List ℤ). sets w (i * 8) v) (record_group n s f (held (extent_of ss)) i j m l p q ms))
        ∙ h (ss ++ own) j (sets w (i * 8) (held_fields 2 p (offset_of s) 0 (replication_of s) j own))
        ∙ behind_group ss i t p (offset_of s) (replication_of s) (items_of kids) (items_of following))

    variable_told : DataFits n s → is_group n ≡ false → among n data_names ≡ true → Told following → Told (element p n s kids following)
    unfolding Told items_of is_group steps
    variable_told f q d h ss i t =
        let k = variable_kind n in
        let own = add (offset_of s) ∷ stand k i (variable_size n s) ∷ [] in
        rw (q, d)
        (variable_tallied (held (extent_of ss)) i m l t p n s kids following q d
        ∙ ap₂ (λ (e : Extent) (v : List ℤ). tally_nodes (tally e 2 (i + 1) m l) v following)
        (ap (λ (e : Extent). held (join (held (extent_of ss)) e)) (own_variable n s f q k i nowhere) ∙ held_append ss own)
        (ap (λ (v : List ℤ). sets t (i * 8) v) (record_variable n s f (held (extent_of ss)) i (i + 1) m l p q k nowhere))
        ∙ h (ss ++ own) (i + 1) (sets t (i * 8) (held_fields k p (offset_of s) (variable_size n s) 1 (i + 1) own))
        ∙ behind_variable ss i t k p (offset_of s) (variable_size n s) (items_of following))

    other_told : is_group n ≡ false → among n data_names ≡ false → Told following → Told (element p n s kids following)
    unfolding Told items_of is_group
    other_told q d h ss i t = rw (q, d) (other_tallied (held (extent_of ss)) i m l t p n s kids following q d ∙ h ss i t)

  told : (r : Row) (in_int : Bool) (b : Before) (u : Nodes) → faults_in r in_int b u ≡ [] → Told u
  unfolding Told items_of tally_nodes steps records held_items
  told r in_int b end e ss i t = alike (sym (append-nil ss)) (omega arith) refl
  told r in_int b (other p c following) e ss i t = told r in_int b following (judged_other r in_int b p c following e) ss i t
  told r in_int b (element p n s kids following) e ss i t =
      let j = judged e in
      by (is_group n) refl (among n data_names) refl
      (told (row_of n) (in_int || is_int n) nothing_before kids j.inside)
      (told r in_int (behind r b n) following j.others)
      ss i t
    where
      fits : among n data_names ≡ true → DataFits n s
      fits f = data_fits p s n f (kept (judged e).own).rules

      by : (g : Bool) → is_group n ≡ g → (a : Bool) → among n data_names ≡ a → Told kids → Told following → Told (element p n s kids following)
      by true q a d k h = let f = group_data n q in group_told p n s kids following (fits f) q f k h
      by false q true d k h = variable_told p n s kids following (fits d) q d h
      by false q false d k h = other_told p n s kids following q d h

-- From the start of a segment or a group without faults on, what is held is that of the walk of its data elements, and their records are written.
pub items_tallied : (r : Row) (in_int : Bool) (b : Before) (u : Nodes) → faults_in r in_int b u ≡ [] → (i m : ℕ) (l : Leaves) (t : List ℤ)
    → tally_nodes (tally nowhere 2 i m l) t u ≡ tallied (tally (held (extent_of (steps i (items_of u)))) 2 (i + records (items_of u)) m l) (sets t (i * 8) (held_items i (items_of u)))
items_tallied r in_int b u e i m l t = inside m l u (told m l r in_int b u e) i t

-- The replications in a tree without faults are at least 1.
pub items_repeated : (r : Row) (in_int : Bool) (b : Before) (u : Nodes) → faults_in r in_int b u ≡ [] → Repeated (items_of u)
unfolding items_of Repeated is_group
items_repeated r in_int b end e = tt
items_repeated r in_int b (other p c following) e = items_repeated r in_int b following (judged_other r in_int b p c following e)
items_repeated r in_int b (element p n s kids following) e =
    let j = judged e in
    by (is_group n) refl (among n data_names) refl
    (items_repeated (row_of n) (in_int || is_int n) nothing_before kids j.inside)
    (items_repeated r in_int (behind r b n) following j.others)
  where
    by : (g : Bool) → is_group n ≡ g → (a : Bool) → among n data_names ≡ a → Repeated (items_of kids) → Repeated (items_of following) → Repeated (items_of (element p n s kids following))
    by true q a d k h = rw q (replication_least n s (data_fits p s n (group_data n q) (kept (judged e).own).rules) q, k, h)
    by false q true d k h = rw (q, d) h
    by false q false d k h = rw (q, d) h
