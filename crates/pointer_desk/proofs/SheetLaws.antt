-- A sheet written row by row.
use Rattle.std.specs.Prelude.{ℕ, ◌≡◌, ◌+◌, ◌*◌, ◌-◌, ◌/◌, ◌%◌, ◌<◌, ◌≤◌, List, [], ◌++◌, length, get_or, take, replicate}
use mathlib.Core.Path.{refl, sym, ap, ap₂, ◌∙◌}
use mathlib.Core.Logic.{⊎_elim}
use native.Mathlib.Omega.{arith}
use borrow.Author.Tests.{ne_eqb}
use Rattle.std.proofs.lemmas.List.{take_all, ext_get_or, length-append, get_or_append_left, get_or-append_right}
use Rattle.std.proofs.lemmas.Bool.{cases_lt}
use Rattle.model.specs.Questions.{up_to}
use Rattle.model.specs.Layout.{Layout}
use Rattle.model.specs.Survey.{blank_sheet}
use Rattle.model.proofs.QuestionLaws.{length_up_to, up_to_at}
use Rattle.pointer_desk.specs.Boundary.{count_of, row_by_row, sheet_given}

module _ (rows : List (List ℕ)) where
  pub no_rows : [] ≡ up_to 0 (count_of rows)
  unfolding up_to
  no_rows = refl

  -- the counts of the rows before, then a row's counts
  pub row_more : (row : ℕ) {counts : List ℕ} → counts ≡ get_or rows row [] → length counts ≡ 64 → up_to (row * 64) (count_of rows) ++ counts ≡ up_to ((row + 1) * 64) (count_of rows)
  row_more row {counts} e long =
      let before = up_to (row * 64) (count_of rows) in
      let later = up_to ((row + 1) * 64) (count_of rows) in
      let as_long : length (before ++ counts) ≡ (row + 1) * 64 = omega (arith, length-append before counts, length_up_to (row * 64) (count_of rows), long) in
      ext_get_or 0 (before ++ counts) later (as_long ∙ sym (length_up_to ((row + 1) * 64) (count_of rows)))
      (λ k l.
      let below : k < (row + 1) * 64 = omega (arith, as_long, l) in
      ⊎_elim
      (λ lt. get_or_append_left before counts 0 k (rw (length_up_to (row * 64) (count_of rows)) lt) ∙ up_to_at (row * 64) (count_of rows) 0 k lt)
      (λ ge.
      let its_row : row ≡ k / 64 = omega arith in
      let its_column : k - row * 64 ≡ k % 64 = omega arith in
      get_or-append_right before counts (row * 64) k 0 (length_up_to (row * 64) (count_of rows)) ge
      ∙ ap (λ c. get_or c (k - row * 64) 0) e
      ∙ ap₂ (λ (x y : ℕ). get_or (get_or rows x []) y 0) its_row its_column)
      (cases_lt k (row * 64))
      ∙ sym (up_to_at ((row + 1) * 64) (count_of rows) 0 k below))

  pub all_rows : (row : ℕ) {sheet : List ℕ} → length sheet ≡ 192 → 3 ≤ row → row ≤ 3 → take (row * 64) sheet ≡ up_to (row * 64) (count_of rows) → sheet ≡ row_by_row rows
  unfolding row_by_row
  all_rows row {sheet} long low high e =
      let end : row * 64 ≡ 192 = omega arith in
      sym (take_all 192 sheet (omega arith)) ∙ rw end at e

-- row by row, from the first to the last
pub ruleset row_after_row = (no_rows, row_more, all_rows)

-- after a refusal all counts are 0
pub blank_counts : replicate 192 0 ≡ row_by_row blank_sheet
unfolding row_by_row up_to
blank_counts = refl

-- another length is given back as it was, with 1
pub sheet_kept : {D : Type 0} (L : Layout D) (d : D) (p : ℕ) (counts : List ℕ) → (length counts ≡ 192 → ⊥) → record { number = 1; counts = counts } ≡ sheet_given L d p counts
unfolding sheet_given
sheet_kept L d p counts other = rw (ne_eqb (length counts) 192 other) refl
