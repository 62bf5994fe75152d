-- Document 01, "Lines": what an opening line asks for, before any table is made.
use Rattle.std.specs.Prelude.{ℕ, ◌-◌, ◌*◌, ◌/◌, ◌≡◌, Bool, true, cond, List, length, Result, Ok, Err}
use Rattle.rules.specs.declared.refusal.Refusal.{Refusal}
use Rattle.rules.specs.declared.refusal.Refusal.TheVariants.{BadShape, BadLine}
use Rattle.model.specs.Tables.{shape_good}
use Rattle.model.specs.Transcript.{opening_form, sites_in, slots_in}
use Rattle.runner.specs.declared.opening.Asked.{Asked}

-- G: the bytes after S and the slot count
abbrev pub pointers_in : List ℕ → ℕ
pointers_in line = length line / 2 - 3

-- the shape that S, G and the slot count ask for
abbrev pub asked : ℕ → ℕ → ℕ → Bool
asked s g slots = shape_good s g (s * g) (s * g) (slots * 5)

abbrev pub asks : ℕ → ℕ → ℕ → Result Asked Refusal
asks s g slots = cond (asked s g slots) (Ok (record { s = s; slots = slots })) (Err BadShape)

-- form (14), then shape (1)
unfoldable pub read_opening : List ℕ → Result Asked Refusal
read_opening line = cond (opening_form line) (asks (sites_in line) (pointers_in line) (slots_in line)) (Err BadLine)

-- its form and its shape are good, and it asks for these sites and slots
pub record Opens (line : List ℕ) (s slots : ℕ) : Type 0 where
  pub form : opening_form line ≡ true
  pub shape : asked s (pointers_in line) slots ≡ true
  pub sites : s ≡ sites_in line
  pub count : slots ≡ slots_in line
