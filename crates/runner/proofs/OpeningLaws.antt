-- The opening line: what its form and its shape give, what is read of it, and the desk that it opens.
use Rattle.std.proofs.Common.{◌≡◌, ℕ, zero, suc, ◌+◌, ◌*◌, ◌/◌, ◌%◌, ◌≤◌, ◌<◌, Bool, true, false, ◌&&◌, List, [], ◌∷◌, length, take, refl, sym, ap, ◌∙◌, arith, Ok, Err}
use lib.Dec.{leb, eqb}
use lib.Seq.{length-take-le}
use native.Mathlib.Numerals.{add-one}
use borrow.Author.Tests.{leb-true}
use mathlib.Core.List.{map}
use Rattle.std.specs.List.{range_with_len, list_all}
use Rattle.std.proofs.lemmas.List.FromFn.{map-range_with_len_more}
use Rattle.std.proofs.lemmas.List.Folds.{list_all-append, list_all-map}
use native.Mathlib.Nat.{mul-le-mul}
use lib.ListN.{replicate, length-replicate}
use mathlib.Core.Bool.{cond}
use Rattle.model.specs.Answers.{refused}
use Rattle.model.specs.Questions.{every}
use Rattle.model.specs.Calls.{open_desk}
use Rattle.model.specs.Tables.{Desk, lent}
use Rattle.model.specs.Flat.{flat}
use Rattle.model.specs.Lines.{byte_at, is_byte}
use Rattle.model.specs.Transcript.{opening_form, sites_in, slots_in, owners_in, fresh, opening}
use Rattle.model.proofs.OpeningLaws.{shape_refused}
use Rattle.model.proofs.ShapeLaws.{shaped}
use Rattle.model.proofs.TestLaws.{and_both}
use Rattle.model.proofs.QuestionLaws.{every_at, length_up_to}
use Rattle.rules.specs.declared.refusal.Refusal.{Refusal}
use Rattle.rules.specs.declared.refusal.Refusal.TheVariants.{BadShape, BadLine}
use Rattle.rules.specs.Turned.{number_of}
use Rattle.runner.specs.declared.opening.Asked.{Asked}
use Rattle.runner.specs.Opened.{pointers_in, asked, read_opening, Opens}

-- ---- a question asked of each number of a range
asked_of_each : (P : ℕ → Bool) (n : ℕ) → list_all (λ b. b) (map P (range_with_len 0 n)) ≡ every n P
unfolding every
asked_of_each P zero = refl
asked_of_each P (suc n) =
    let more = map-range_with_len_more P 0 n n (omega arith) in
    let both = list_all-append (λ b. b) (map P (range_with_len 0 n)) (P n ∷ []) in
    let before = asked_of_each P n in
    rw (← add-one) (grind (arith, more, both, before))

pub every_of_range : (P : ℕ → Bool) (n : ℕ) → list_all P (range_with_len 0 n) ≡ every n P
every_of_range P n = sym (list_all-map (λ b. b) P (range_with_len 0 n)) ∙ asked_of_each P n

-- ---- its form
pub record Formed (line : List ℕ) : Type 0 where
  pub least : 6 ≤ length line
  pub most : length line ≤ 518
  pub bytes : every (length line / 2) (is_byte line) ≡ true

pub formed : (line : List ℕ) → opening_form line ≡ true → Formed line
formed line e =
    let e1 = and_both (leb 6 (length line) && leb (length line) 518 && eqb (length line % 2) 0) (every (length line / 2) (is_byte line)) e in
    let e2 = and_both (leb 6 (length line) && leb (length line) 518) (eqb (length line % 2) 0) e1.0 in
    let e3 = and_both (leb 6 (length line)) (leb (length line) 518) e2.0 in
    record { least = leb-true 6 (length line) e3.0; most = leb-true (length line) 518 e3.1; bytes = e1.1 }

pub byte_there : (line : List ℕ) (i : ℕ) → opening_form line ≡ true → i < length line / 2 → is_byte line i ≡ true
byte_there line i e h = every_at (is_byte line) (length line / 2) i h (formed line e).bytes

-- those of S and of the slot count
pub first_bytes : (line : List ℕ) → opening_form line ≡ true → (is_byte line 0 ≡ true) × (is_byte line 1 ≡ true) × (is_byte line 2 ≡ true)
first_bytes line e =
    let least = (formed line e).least in
    (byte_there line 0 e (omega arith), byte_there line 1 e (omega arith), byte_there line 2 e (omega arith))

-- ---- its shape
pub few_slots : (line : List ℕ) (s slots : ℕ) → Opens line s slots → slots * 5 ≤ 5120
few_slots line s slots o = let g = pointers_in line in omega (arith, (shaped s g (s * g) (s * g) (slots * 5) o.shape).few_slots)

pub few_cells : (line : List ℕ) (s slots : ℕ) → Opens line s slots → s * pointers_in line ≤ 16384
few_cells line s slots o =
    let g = pointers_in line in
    let z = (shaped s g (s * g) (s * g) (slots * 5) o.shape).sizes in
    mul-le-mul z.few_sites z.few_pointers

pub byte_cells_lem : {s g : ℕ} → s < 256 → g ≤ 256 → s * g ≤ 65536
byte_cells_lem {s} {g} a b = let c : s ≤ 256 = omega arith in mul-le-mul c b

-- ---- what is read of it
opens_by : (t u : Bool) (x y : ℕ) (a : Asked) → cond t (cond u (Ok (record { s = x; slots = y })) (Err BadShape)) (Err BadLine) ≡ Ok a
    → (t ≡ true) × (u ≡ true) × (a.s ≡ x) × (a.slots ≡ y)
opens_by true true x y a e = (refl, refl, cc, cc)
opens_by true false x y a e = cc
opens_by false u x y a e = cc

pub opens : (line : List ℕ) (a : Asked) → read_opening line ≡ Ok a → Opens line a.s a.slots
unfolding read_opening
opens line a e =
    let f = opens_by (opening_form line) (asked (sites_in line) (pointers_in line) (slots_in line)) (sites_in line) (slots_in line) a e in
    record { form = f.0; shape = rw (f.2, f.3) f.1; sites = f.2; count = f.3 }

-- ---- the desk that it opens
owners_long : (line : List ℕ) → length (owners_in line) ≡ pointers_in line
owners_long line = length_up_to (pointers_in line) (λ p. byte_at line (p + 3))

-- a part of an array of zeros
take_zeros : (n m : ℕ) → n ≤ m → take {A = ℕ} n (replicate m 0) ≡ replicate n 0
take_zeros zero m h = refl
take_zeros (suc n) zero h = absurd (omega arith)
take_zeros (suc n) (suc m) h = ap (λ (l : List ℕ). 0 ∷ l) (take_zeros n m (omega arith))

form_good : (line : List ℕ) → opening_form line ≡ true → opening line ≡ open_desk flat (fresh (sites_in line) (owners_in line) (slots_in line))
unfolding opening
form_good line e = simp e

pub opens_parts : (line owners : List ℕ) (s slots : ℕ) → Opens line s slots → owners ≡ owners_in line
    → open_desk flat (lent s owners (take (s * pointers_in line) (replicate 16384 0)) (take (s * pointers_in line) (replicate 16384 0)) (take (slots * 5) (replicate 5120 0))) ≡ opening line
unfolding fresh
opens_parts line owners s slots o e =
    let cells : List ℕ = take (s * pointers_in line) (replicate 16384 0) in
    let slots_zero : List ℕ = take (slots * 5) (replicate 5120 0) in
    let parts : lent s (owners_in line) cells cells slots_zero ≡ fresh s (owners_in line) slots =
    rw (take_zeros (s * pointers_in line) 16384 (few_cells line s slots o), take_zeros (slots * 5) 5120 (few_slots line s slots o), owners_long line) in
    ap (λ (l : List ℕ). open_desk flat (lent s l cells cells slots_zero)) e ∙ ap (open_desk flat) parts ∙ rw (o.sites, o.count) (sym (form_good line o.form))

-- a part of the send table, or of the receive table
pub part_long : (line : List ℕ) (s slots : ℕ) → Opens line s slots → length (take {A = ℕ} (s * pointers_in line) (replicate 16384 0)) ≡ s * pointers_in line
part_long line s slots o = length-take-le (s * pointers_in line) (replicate 16384 0) (rw (length-replicate {A = ℕ} 16384 0) (few_cells line s slots o))

-- ---- a line that asks for nothing: the desk that nobody sees
shaped_fresh : (s : ℕ) (owners : List ℕ) (slots : ℕ) → flat.shaped (fresh s owners slots) ≡ asked s (length owners) slots
unfolding fresh
shaped_fresh s owners slots = rw (length-replicate {A = ℕ} (s * length owners) 0, length-replicate {A = ℕ} (slots * 5) 0)

abbrev TurnedDown : List ℕ → Refusal → Type 0
TurnedDown line refusal = (d : Desk) × (record { answer = refused (number_of refusal); desk = d } ≡ opening line)

form_bad : (line : List ℕ) → opening_form line ≡ false → TurnedDown line BadLine
unfolding opening
form_bad line e = (fresh 0 [] 0, simp e)

shape_bad : (line : List ℕ) → opening_form line ≡ true → asked (sites_in line) (pointers_in line) (slots_in line) ≡ false → TurnedDown line BadShape
shape_bad line e f =
    let d = fresh (sites_in line) (owners_in line) (slots_in line) in
    let small = shaped_fresh (sites_in line) (owners_in line) (slots_in line) ∙ ap (λ (g : ℕ). asked (sites_in line) g (slots_in line)) (owners_long line) ∙ f in
    (d, shape_refused flat d small refl ∙ sym (form_good line e))

turned_by : (t u : Bool) (line : List ℕ) (refusal : Refusal) (a : Asked) → opening_form line ≡ t → asked (sites_in line) (pointers_in line) (slots_in line) ≡ u
    → cond t (cond u (Ok a) (Err BadShape)) (Err BadLine) ≡ Err refusal → TurnedDown line refusal
turned_by true true line refusal a f g e = cc
turned_by true false line refusal a f g e = let k : BadShape ≡ refusal = cc in rw (← k) (shape_bad line f g)
turned_by false u line refusal a f g e = let k : BadLine ≡ refusal = cc in rw (← k) (form_bad line f)

pub turned_down : (line : List ℕ) (refusal : Refusal) → read_opening line ≡ Err refusal → TurnedDown line refusal
unfolding read_opening
turned_down line refusal e =
    turned_by (opening_form line) (asked (sites_in line) (pointers_in line) (slots_in line)) line refusal (record { s = sites_in line; slots = slots_in line }) refl refl e
