-- "Slips we have seen", and a few more that a definition could make: cases that come out otherwise where one is made.
-- (The first two and the last of document 01 show in the worked set: variables 3 and 4 of T, and "AB" in size 4.)
use Rattle.std.specs.Prelude.{◌≡◌, refl, List, [], ◌∷◌, ◌++◌, map, true, false, pos, replicate}
use Rattle.std.proofs.Math.Option.{none, some}
use Rattle.cdi.specs.Lists.{ascii}
use Rattle.cdi.specs.Faults.{fault, least}
use Rattle.cdi.specs.Text.{content}
use Rattle.cdi.specs.Rows.{size}
use Rattle.cdi.specs.Rules.{out_of_range, form_faults, is_signed}
use Rattle.cdi.specs.Walk.{no_items, variable, group, add, stand, copies, steps}
use Rattle.cdi.specs.Values.{with_sign, bytes_of, padded}
use Rattle.cdi.specs.Access.{integer}
use Rattle.cdi.specs.Worked.{all_pages, opened, single, Ask, plans, writes, Told, refusal, values, stored_as, told_of, counts_told, lent, window, answer}

unfoldable pub slips : List (Ask × Told)
slips =
    -- an int is not signed because min is present: 200 can be stored
    (writes "<int><min>0</min><max>200</max></int>" (integer (with_sign false 200)), stored_as (200 ∷ ascii "eftovers"))
    -- minus zero is not below zero
    ∷ (writes "<int><min>-0</min><max>200</max></int>" (integer (with_sign true 0)), stored_as (0 ∷ ascii "eftovers"))
    -- 04 is a number and no size, nor is +4; blanks around a size are dropped
    ∷ (plans (single "<int size=\"04\"/>") 16, refusal 10 174 (lent 16))
    ∷ (plans (single "<int size=\"+4\"/>") 16, refusal 10 174 (lent 16))
    ∷ (plans (single "<int size=\" \"/>") 16, refusal 10 174 (lent 16))
    -- blanks around a number are dropped, a plus says nothing; alone they are no number
    ∷ (
      plans (single "<int size=\" 4\t\" offset=\"+5 \"/>") 16,
      values (pos 2 ∷ pos 1 ∷ []) (map pos (1 ∷ 155 ∷ 0 ∷ 1 ∷ 1 ∷ 2 ∷ 1 ∷ 9 ∷ 3 ∷ 174 ∷ 5 ∷ 4 ∷ 1 ∷ 2 ∷ 1 ∷ 9 ∷ [])),
    )
    ∷ (plans (single "<int offset=\"+ 5\"/>") 16, refusal 9 174 (lent 16))
    ∷ (plans (single "<int offset=\"+-5\"/>") 16, refusal 9 174 (lent 16))
    ∷ (plans (single "<int offset=\" \"/>") 16, refusal 9 174 (lent 16))
    -- the smaller place speaks, though a smaller number stands behind it
    ∷ (plans (single "<int offset=\"4294967296\"/><unknown/>") 16, refusal 10 174 (lent 16))
    -- no `--` inside a comment, at its end neither
    ∷ (plans (single "<!-- a --->") 16, refusal 4 174 (lent 16))
    -- a reference to a carriage return is one to an XML character, and as text between children it is stray
    ∷ (plans (single "&#13;") 16, refusal 88 174 (lent 16))
    -- an unknown attribute stands at its own name, of two the first; what stands at the tag's `<` comes before
    ∷ (plans (single "<int a=\"\" size=\"2\" b=\"\"/>") 16, refusal 85 179 (lent 16))
    ∷ (plans (single "<int a=\"\" size=\"3\"/>") 16, refusal 10 174 (lent 16))
    ∷ (plans (single "<string a=\"\"/>") 16, refusal 86 174 (lent 16))
    ∷ (plans (single "<float size=\"2\" \n formatting=\"x\" a=\"\"/>") 16, refusal 87 192 (lent 16))
    -- out of order comes before too often
    ∷ (plans (single "<group><name/><description/><name/></group>") 16, refusal 82 202 (lent 16))
    ∷ (plans (single "<group><name/><name/></group>") 16, refusal 83 188 (lent 16))
    -- a relation that lacks its value is told at its own `<`
    ∷ (plans (single "<int><map><relation><property>1</property></relation></map></int>") 16, refusal 84 184 (lent 16))
    -- a group without members adds its offset once, whatever its replication
    ∷ (
      plans (single "<group replication=\"2\" offset=\"5\"/>") 16,
      values (pos 2 ∷ pos 0 ∷ []) (map pos (1 ∷ 155 ∷ 0 ∷ 1 ∷ 1 ∷ 2 ∷ 0 ∷ 5 ∷ 2 ∷ 174 ∷ 5 ∷ 0 ∷ 2 ∷ 2 ∷ 0 ∷ 5 ∷ [])),
    )
    ∷ []

pub come_out : map (λ c. answer c.0) slips ≡ map (λ c. c.1) slips
unfolding all_pages opened single told_of counts_told lent window answer slips
come_out = refl

-- of several faults the one at the smallest place, and there the one with the smallest number
pub place_first : least (fault 81 30 ∷ fault 10 20 ∷ fault 9 20 ∷ []) ≡ some (fault 9 20)
unfolding all_pages
place_first = refl

-- 81 to 88 come before 9, though they are larger
pub rank_first : least (fault 9 20 ∷ fault 88 20 ∷ fault 85 20 ∷ []) ≡ some (fault 85 20)
unfolding all_pages
rank_first = refl

-- a zero at place 65,535 is in time, and one at 65,536 is not
pub in_time : content (replicate 65535 32 ++ 0 ∷ []) ≡ some (replicate 65535 32)
unfolding all_pages
in_time = refl

pub too_late : content (replicate 65536 32 ++ 0 ∷ []) ≡ none
unfolding all_pages
too_late = refl

-- ── single definitions, each by a fact of its own ──

-- two numbers that are their own ranks
pub place_alone : least (fault 2 30 ∷ fault 5 20 ∷ []) ≡ some (fault 5 20)
unfolding all_pages
place_alone = refl

-- a group adds its offset once, whatever its copies add, and where there are none
pub offsets_once : steps 2 (group 0 (pos 2) 0 (variable 5 0 (pos 0) 8 no_items) no_items) ≡ add (pos 2) ∷ []
unfolding all_pages
offsets_once = refl

pub whole_copies : copies 2 (add (pos 7) ∷ stand 3 1 4 ∷ []) ≡ add (pos 7) ∷ stand 3 1 4 ∷ add (pos 7) ∷ stand 3 1 4 ∷ []
unfolding all_pages
whole_copies = refl

pub large_end_first : bytes_of 2 300 ≡ 1 ∷ 44 ∷ []
unfolding all_pages
large_end_first = refl

pub zeros_behind : padded 4 (65 ∷ 66 ∷ []) ≡ 65 ∷ 66 ∷ 0 ∷ 0 ∷ []
unfolding all_pages
zeros_behind = refl

pub zero_unsigned : is_signed (some (record { place = 0; value = pos 0 })) ≡ false
unfolding all_pages
zero_unsigned = refl

pub size_by_text : form_faults 0 (size ("4" ∷ [])) (ascii "04") ≡ out_of_range 0 ∷ []
unfolding all_pages
size_by_text = refl
