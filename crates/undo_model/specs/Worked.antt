-- Sessions over document 01's text T, by computation: what each call answers, and what all of them leave.
use Rattle.std.specs.Prelude.{◌≡◌, refl, List, [], ◌∷◌, ◌++◌, map, ℕ, ℤ, pos, take, replicate}
use Rattle.cdi.specs.Faults.{fault, Answer, accepted, refused}
use Rattle.cdi.specs.Walk.{Found}
use Rattle.cdi.specs.Planning.{table_after}
use Rattle.cdi.specs.Access.{integer}
use Rattle.cdi.specs.Worked.{all_pages, opened, text_with, T, lent}
use Rattle.undo_model.specs.Journal.{journal_page}
use Rattle.undo_model.specs.Sessions as S
use Rattle.undo_model.specs.Sessions.{State, Edit, with_edit, without_edit, Call, edit, undo, called, after, answered, sessions_page}

-- the answers of the calls one after the other, and the state in the end
pub record Run : Type 0 where
  pub answers : List (Answer ℕ)
  pub window : List ℕ
  pub journal : List ℕ

-- all of T's segment, 40 bytes from 128 on in space 253; a journal of n bytes
unfoldable pub start : ℕ → State
start n = S.opened (record { space = 253; first = 128; bytes = replicate 40 0x11 }) (replicate n 0xAA)

-- handed in with another session value
unfoldable pub standing_one : State → State
standing_one s = record { session = 1; window = s.window; journal = s.journal }

unfoldable pub run_from : List ℤ → List (Answer ℕ) → State → List Call → Run
run_from t told s [] = record { answers = told; window = s.window.bytes; journal = s.journal }
run_from t told s (c ∷ cs) = let a = called T t s c in run_from t (told ++ (answered a ∷ [])) (after s a) cs

-- over T and its table
unfoldable pub run : State → List Call → Run
run s cs = run_from (table_after T (lent 48)) [] s cs

-- writing v to variable n
unfoldable pub set : ℕ → ℕ → Call
set n v = edit (record { number = n; value = integer (pos v) })

unfoldable pub cases : List (Run × Run)
cases =
    -- an edit, a second one, and both taken back; a third undo finds none
    (
      run (start 18) (set 0 7 ∷ set 0 9 ∷ undo ∷ undo ∷ undo ∷ []),
      record {
        answers = accepted 1 ∷ accepted 2 ∷ accepted 1 ∷ accepted 0 ∷ refused (fault 31 0) ∷ [];
        window = replicate 40 0x11;
        journal = 0 ∷ 0 ∷ 0 ∷ 0 ∷ 0 ∷ 0 ∷ 0 ∷ 1 ∷ 0x11 ∷ 0 ∷ 0 ∷ 0 ∷ 0 ∷ 0 ∷ 0 ∷ 0 ∷ 1 ∷ 7 ∷ [];
      },
    )
    -- one byte less: the second entry finds no room. What writing refuses is refused as it says
    ∷ (
      run (start 17) (set 0 7 ∷ set 0 9 ∷ set 0 256 ∷ []),
      record {
        answers = accepted 1 ∷ refused (fault 30 0) ∷ refused (fault 23 0) ∷ [];
        window = 7 ∷ replicate 39 0x11;
        journal = 0 ∷ 0 ∷ 0 ∷ 0 ∷ 0 ∷ 0 ∷ 0 ∷ 1 ∷ 0x11 ∷ replicate 8 0xAA;
      },
    )
    -- the room of an edit taken back is used again
    ∷ (
      run (start 20) (set 0 7 ∷ set 0 9 ∷ undo ∷ set 2 300 ∷ []),
      record {
        answers = accepted 1 ∷ accepted 2 ∷ accepted 1 ∷ accepted 2 ∷ [];
        window = 7 ∷ replicate 9 0x11 ++ (1 ∷ 44 ∷ replicate 28 0x11);
        journal = 0 ∷ 0 ∷ 0 ∷ 0 ∷ 0 ∷ 0 ∷ 0 ∷ 1 ∷ 0x11 ∷ 0 ∷ 0 ∷ 0 ∷ 2 ∷ 0 ∷ 0 ∷ 0 ∷ 2 ∷ 0x11 ∷ 0x11 ∷ 0xAA ∷ [];
      },
    )
    -- a session value and a journal that no call left: by its size the entry doesn't lie in the journal
    ∷ (
      run (standing_one (start 20)) (undo ∷ []),
      record { answers = refused (fault 35 0) ∷ []; window = replicate 40 0x11; journal = replicate 20 0xAA },
    )
    ∷ []

pub worked : map (λ c. c.0) cases ≡ map (λ c. c.1) cases
unfolding all_pages opened text_with T lent journal_page sessions_page start standing_one run_from run set cases
worked = refl

-- ── single definitions, each by a fact of its own ──

-- T's variable 0
unfoldable pub byte : Found
byte = record { number = 1; space = 253; address = 128; size = 1; kind = 3 }

unfoldable pub seven : ℕ → Edit
seven n = record { number = n; value = integer (pos 7) }

-- one edit stands, of a variable 0 of one byte
unfoldable pub stood : State
stood = record { session = 1; window = (start 0).window; journal = replicate 7 0 ++ (1 ∷ 0x11 ∷ replicate 9 0xAA) }

-- the next entry, of a variable 5, leaves it as it is
pub behind_the_last : take 9 (with_edit [] [] (seven 5) stood byte).journal ≡ take 9 stood.journal
unfolding all_pages journal_page sessions_page start byte seven stood
behind_the_last = refl

pub old_kept : (with_edit T (table_after T (lent 48)) (seven 0) (start 9) byte).journal ≡ replicate 7 0 ++ (1 ∷ 0x11 ∷ [])
unfolding all_pages opened text_with T lent journal_page sessions_page start byte seven
old_kept = refl

pub one_less : (without_edit stood byte).session ≡ 0
unfolding all_pages journal_page sessions_page start byte stood
one_less = refl
