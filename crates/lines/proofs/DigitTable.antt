-- The table of the sixteen digits: entry n is the digit of n.
use Prim.Native.Nat.{ℕ, ◌<◌}
use mathlib.Core.Path.{◌≡◌, refl, sym, ap, ◌∙◌}
use mathlib.Core.Bool.{Bool, true}
use lib.Dec.{eqb}
use lib.ListN.{length, get_or}
use borrow.Author.Tests.{eqb-true}
use Rattle.model.specs.Questions.{every}
use Rattle.model.specs.Lines.{digit_of, number_of}
use Rattle.model.proofs.QuestionLaws.{every_at}
use Rattle.model.proofs.DigitLaws.{number_of_digit}
use Rattle.lines.proofs.Table.{table}

pub sixteen_entries : length table ≡ 16
sixteen_entries = refl

-- the test of one entry, and of all
abbrev is_digit : ℕ → Bool
is_digit n = eqb (get_or table n 0) (digit_of n)

all_digits : every 16 is_digit ≡ true
unfolding every
all_digits = refl

-- the rule at each place
pub entry_is_digit : (n : ℕ) → n < 16 → get_or table n 0 ≡ digit_of n
entry_is_digit n l = eqb-true (get_or table n 0) (digit_of n) (every_at is_digit 16 n l all_digits)

-- an entry is read as its number
pub entry_reads_back : (n : ℕ) → n < 16 → number_of (get_or table n 0) ≡ n
entry_reads_back n l = ap number_of (entry_is_digit n l) ∙ number_of_digit n l

-- no two entries are alike
pub entries_differ : (m n : ℕ) → m < 16 → n < 16 → get_or table m 0 ≡ get_or table n 0 → m ≡ n
entries_differ m n lm ln e = sym (entry_reads_back m lm) ∙ ap number_of e ∙ entry_reads_back n ln
