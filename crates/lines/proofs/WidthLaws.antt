-- The width of the first line of a text is the place of its newline; it is the length of the text where there is none.
use Rattle.std.proofs.Common.{◌≡◌, ◌==◌, ℕ, List, refl, arith}
use Rattle.std.specs.List.{position_or_len}
use Rattle.std.proofs.lemmas.List.Recursion.{is_position_or_len}
use Rattle.model.specs.Lines.{newline, width}

pub width_is_position : (text : List ℕ) → width text ≡ position_or_len (λ c. c == newline) text
unfolding width
width_is_position text = is_position_or_len width (λ c. c == newline) refl (λ c cs. grind arith) text
