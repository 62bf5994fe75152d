-- A small book and what it gives, computed: two tables, two claims.
use Prim.Native.Nat.{ℕ, ◌+◌}
use Prim.Native.Char.{code}
use Prim.Native.String.{String, [] as no_more, ◌∷◌ as ◌before◌}
use mathlib.Core.Path.{◌≡◌, refl}
use mathlib.Core.List.{List, [], ◌∷◌, map}
use Rattle.model.specs.declared.Posted.TheVariants.{Nothing}
use Rattle.model.specs.Answers.{Answer}
use Rattle.model.specs.Questions.{every, some, lowest_from}
use Rattle.model.specs.Answers.{accepted, refused}
use Rattle.model.specs.Tables.{all_below, owners_refusal}
use Rattle.book.specs.Part.{Part}
use Rattle.book.specs.Book.{entry_at, entries, same, has, twins, book_refusal, address_number, address_part, check_number, check_answer, search_number, search_answer}
use Rattle.book.specs.Written.{written}

pub name : String → List ℕ
name no_more = []
name (c before cs) = code c ∷ name cs

-- a net whose brackets are escaped, and two nets of one name
pub nets : List ℕ
nets = written (name "a\\[0\\]" ∷ name "b" ∷ name "b" ∷ [])

pub record Row : Type 0 where
  pub given : Answer
  pub expected : Answer

infix 10 ◌gives◌
abbrev ◌gives◌ : Answer → Answer → Row
given gives expected = record { given = given; expected = expected }

pub table : List Row
table =
    -- owners 0, 0, 1: no twins; owners 0, 1, 1: pointers 1 and 2
    (check_answer 2 (0 ∷ 0 ∷ 1 ∷ []) nets gives accepted 0 Nothing)
    ∷ (check_answer 2 (0 ∷ 1 ∷ 1 ∷ []) nets gives refused 19)
    -- an entry too many, an entry too few, a byte too many, a length of 0, no entry at all
    ∷ (check_answer 2 (0 ∷ 0 ∷ []) nets gives refused 18)
    ∷ (check_answer 2 (0 ∷ 0 ∷ 1 ∷ 0 ∷ []) nets gives refused 18)
    ∷ (check_answer 2 (0 ∷ []) (1 ∷ 98 ∷ 0 ∷ []) gives refused 18)
    ∷ (check_answer 2 (0 ∷ []) (0 ∷ []) gives refused 18)
    ∷ (check_answer 2 [] [] gives accepted 0 Nothing)
    -- 1 and 2 as an opening gives them
    ∷ (check_answer 65 [] [] gives refused 1)
    ∷ (check_answer 2 (2 ∷ []) (1 ∷ 98 ∷ []) gives refused 2)
    -- by owner and whole address; never unescaped; the lowest of two
    ∷ (search_answer 2 (0 ∷ 0 ∷ 1 ∷ []) nets 1 (name "b") gives accepted 2 Nothing)
    ∷ (search_answer 2 (0 ∷ 0 ∷ 1 ∷ []) nets 0 (name "a\\[0\\]") gives accepted 0 Nothing)
    ∷ (search_answer 2 (0 ∷ 0 ∷ 1 ∷ []) nets 0 (name "a[0]") gives refused 20)
    ∷ (search_answer 2 (0 ∷ 0 ∷ 1 ∷ []) nets 0 (name "a") gives refused 20)
    ∷ (search_answer 2 (0 ∷ 0 ∷ 1 ∷ []) nets 1 (name "a\\[0\\]") gives refused 20)
    ∷ (search_answer 2 (0 ∷ 0 ∷ 1 ∷ []) nets 0 [] gives refused 20)
    ∷ (search_answer 2 (0 ∷ 1 ∷ 1 ∷ []) nets 1 (name "b") gives accepted 1 Nothing)
    -- 18, then 3
    ∷ (search_answer 2 (0 ∷ 0 ∷ 1 ∷ []) nets 2 (name "b") gives refused 3)
    ∷ (search_answer 2 (0 ∷ 0 ∷ []) nets 2 (name "b") gives refused 18)
    ∷ []

pub rows : map (λ row. row.given) table ≡ map (λ row. row.expected) table
unfolding table nets name written all_below owners_refusal every some lowest_from entry_at entries same has twins book_refusal check_number check_answer search_number search_answer
rows = refl

-- the book, lent at a place of a block; its three addresses, and the empty part for a pointer that it does not have
abbrev part : ℕ → List ℕ → Part
part at bytes = record { block = 7; place = 40 + at; bytes = bytes }

pub parts : map (address_part 2 (0 ∷ 0 ∷ 1 ∷ []) (part 0 nets)) (0 ∷ 1 ∷ 2 ∷ 3 ∷ [])
    ≡ part 1 (name "a\\[0\\]") ∷ part 8 (name "b") ∷ part 10 (name "b") ∷ part 0 [] ∷ []
unfolding nets name written all_below owners_refusal every entry_at entries book_refusal address_number address_part
parts = refl
