-- A line, an opening line and an input are turned down exactly where document 01 says so: 14, 15, 16; 14, 1, 2; 17.
use Prim.Native.Nat.{ℕ, zero, suc, ◌+◌, ◌-◌, ◌*◌, ◌/◌, ◌%◌, ◌≤◌, ◌<◌}
use mathlib.Core.Path.{◌≡◌, refl, sym, ap, ◌∙◌}
use mathlib.Core.Logic.{◌≢◌, ◌⊎◌, inl, inr, ◌↔◌}
use mathlib.Core.Bool.{Bool, true, false, ◌&&◌, ◌||◌, not, cond}
use mathlib.Core.List.{List, [], ◌∷◌}
use native.Mathlib.Decide.{dec_lt}
use native.Mathlib.Omega.{arith}
use lib.Dec.{leb, ltb, eqb}
use lib.ListN.{length, get_or, length-replicate}
use borrow.Author.Tests.{eqb-true, eqb-false, eq-eqb, ne_eqb, leb-true, leb-false, le-leb, lt-leb, ltb-true, ltb-false, lt-ltb, le-ltb, not-true, not-false}
use Rattle.model.specs.declared.Posted.TheVariants.{Nothing}
use Rattle.model.specs.declared.Call.{Call}
use Rattle.model.specs.Lines.{Refused}
use Rattle.model.specs.Refusals.{BadLine, TooLong, ◌when◌, ◌or_else◌}
use Rattle.model.specs.Questions.{every}
use Rattle.model.specs.Answers.{accepted, refused, Outcome, unless}
use Rattle.model.specs.Calls.{open_refusal, open_desk}
use Rattle.model.specs.Tables.{sizes_good, byte_below, all_below}
use Rattle.model.specs.Flat.{flat}
use Rattle.model.specs.Lines.{digit_of, number_of, digits_of, byte_of, byte_at, is_byte, call_of, line_refusal, said_unless, read_line, refusal_in, lines_of}
use Rattle.model.specs.Transcript.{answer_line, opening_form, sites_in, slots_in, owners_in, fresh, opening, session, transcript}
use Rattle.model.specs.Demands.{Row, ◌because◌, FirstOf}
use Rattle.model.specs.LineRows.{Digit, decimal, letter, NonDigit, Writes, Unknown, Private, TwoToFour, NotZero, line_rows, NoSiteCount, WritesSlots, owners_written, NoSuchSizes, NoSiteOwns, opening_line_rows, AsWritten}
use Rattle.model.proofs.TestLaws.{true_not_false, and_both, and_false, when_not, or_else_none}
use Rattle.model.proofs.QuestionLaws.{every_at, every_not, every_fails, length_up_to, up_to_at}
use Rattle.model.proofs.DigitLaws.{decimal_number, letter_number, byte_of_digits, digits_of_byte}
use Rattle.model.proofs.RowLaws.{by_test_then, by_test, last_test, false_when, not_equal_when}
use Rattle.model.proofs.Exactly.{number_of_unless}
use Rattle.model.proofs.OpeningLaws.{opening_number, opening_whole}

-- ---- a character that is a digit has a number below 16, and no other has
digit_number : (c : ℕ) → Digit c → number_of c < 16
digit_number c (decimal low high) = omega (arith, decimal_number c low high)
digit_number c (letter low high) = omega (arith, letter_number c low high)

number_digit : (c : ℕ) → number_of c < 16 → Digit c
unfolding number_of
number_digit c = go (leb 48 c && leb c 57) (leb 65 c && leb c 70) refl refl
  where
    go : (d l : Bool) → (leb 48 c && leb c 57) ≡ d → (leb 65 c && leb c 70) ≡ l → cond d (c - 48) (cond l (c - 55) 16) < 16 → Digit c
    go true l e f h = let b = and_both (leb 48 c) (leb c 57) e in decimal (leb-true 48 c b.0) (leb-true c 57 b.1)
    go false true e f h = let b = and_both (leb 65 c) (leb c 70) f in letter (leb-true 65 c b.0) (leb-true c 70 b.1)
    go false false e f h = absurd (omega arith)

-- ---- two characters are a byte just where both are digits
both_digits : (high low : ℕ) → Digit high → Digit low → byte_of high low < 256
unfolding byte_of
both_digits high low h l =
    let x = digit_number high h in
    let y = digit_number low l in
    rw (lt-ltb (number_of high) 16 x, lt-ltb (number_of low) 16 y) (omega arith)

digits_both : (high low : ℕ) → byte_of high low < 256 → Digit high × Digit low
unfolding byte_of
digits_both high low = go (ltb (number_of high) 16) (ltb (number_of low) 16) refl refl
  where
    go : (a b : Bool) → ltb (number_of high) 16 ≡ a → ltb (number_of low) 16 ≡ b → cond (a && b) (number_of high * 16 + number_of low) 256 < 256 → Digit high × Digit low
    go true true e f h = (number_digit high (ltb-true _ _ e), number_digit low (ltb-true _ _ f))
    go true false e f h = absurd (omega arith)
    go false b e f h = absurd (omega arith)

-- a character is a digit or not
digit_or_not : (c : ℕ) → Dec (Digit c)
digit_or_not c = go (dec_lt (number_of c) 16)
  where
    go : Dec (number_of c < 16) → Dec (Digit c)
    go (yes l) = yes (number_digit c l)
    go (no l) = no (λ h. l (digit_number c h))

-- ---- a line of n bytes: one of them is none just where some character is no digit
module _ (line : List ℕ) (n : ℕ) (long : length line ≡ n * 2) where
  bytes_fail : not (every n (is_byte line)) ≡ true → NonDigit line
  bytes_fail e = go (every_fails (is_byte line) n (not-true _ e))
    where
      go : (i : ℕ) × (i < n) × (is_byte line i ≡ false) → NonDigit line
      go (i, l, f) = by (digit_or_not (get_or line (i * 2) 0)) (digit_or_not (get_or line (i * 2 + 1) 0))
        where
          by : Dec (Digit (get_or line (i * 2) 0)) → Dec (Digit (get_or line (i * 2 + 1) 0)) → NonDigit line
          by (no h) b = record { place = i * 2; in_line = omega arith; no_digit = h }
          by (yes a) (no h) = record { place = i * 2 + 1; in_line = omega arith; no_digit = h }
          by (yes a) (yes b) = absurd (omega (arith, both_digits _ _ a b, ltb-false (byte_at line i) 256 f))

  fail_bytes : NonDigit line → not (every n (is_byte line)) ≡ true
  fail_bytes why =
      let i = why.place / 2 in
      let inside = why.in_line in
      false_when _ (every_not (is_byte line) n i (omega arith) (go (ltb (byte_at line i) 256) refl))
    where
      go : (b : Bool) → is_byte line (why.place / 2) ≡ b → is_byte line (why.place / 2) ≡ false
      go false e = e
      go true e = absurd (which (dec_lt (why.place % 2) 1))
        where
          both : Digit (get_or line (why.place / 2 * 2) 0) × Digit (get_or line (why.place / 2 * 2 + 1) 0)
          both = digits_both _ _ (ltb-true _ _ e)

          which : Dec (why.place % 2 < 1) → ⊥
          which (yes l) = let q : why.place / 2 * 2 ≡ why.place = omega arith in why.no_digit (rw q at both.0)
          which (no l) = let q : why.place / 2 * 2 + 1 ≡ why.place = omega arith in why.no_digit (rw q at both.1)

-- ---- what two digits write is the byte that is read
module _ (line : List ℕ) (i : ℕ) (These : ℕ → Type 0) where
  writes_read : byte_at line i < 256 → These (byte_at line i) → Writes line i These
  writes_read l these =
      let d = digits_of_byte (get_or line (i * 2) 0) (get_or line (i * 2 + 1) 0) l in
      record { byte = byte_at line i; a_byte = l; high = sym d.0; low = sym d.1; one_of_these = these }

  read_writes : Writes line i These → These (byte_at line i)
  read_writes w =
      let q : byte_at line i ≡ w.byte = rw (w.high, w.low) (byte_of_digits w.byte w.a_byte) in
      rw q w.one_of_these

-- ---- a line
-- its number: eight characters, then the rest
refusal_said : (n : ℕ) (call : Call) → refusal_in (said_unless n call) ≡ n
refusal_said zero call = refl
refusal_said (suc n) call = refl

line_number : (line : List ℕ)
    → refusal_in (read_line line) ≡ BadLine when not (eqb (length line) 8) or_else line_refusal (byte_at line 0) (byte_at line 1) (byte_at line 2) (byte_at line 3)
unfolding read_line
line_number line = go (eqb (length line) 8)
  where
    go : (b : Bool) → refusal_in (cond b (said_unless (line_refusal (byte_at line 0) (byte_at line 1) (byte_at line 2) (byte_at line 3)) (call_of (byte_at line 0) (byte_at line 1) (byte_at line 2) (byte_at line 3))) (Refused BadLine))
        ≡ BadLine when not b or_else line_refusal (byte_at line 0) (byte_at line 1) (byte_at line 2) (byte_at line 3)
    go true = refusal_said _ _
    go false = refl

-- tests of a code, as reasons
unknown : (code : ℕ) → (eqb code 0 || leb 5 code && leb code 127) ≡ true → Unknown code
unknown code e = go (eqb code 0) refl e
  where
    go : (a : Bool) → eqb code 0 ≡ a → (a || leb 5 code && leb code 127) ≡ true → Unknown code
    go true f e = inl (eqb-true code 0 f)
    go false f e = let b = and_both (leb 5 code) (leb code 127) e in inr (leb-true _ _ b.0, leb-true _ _ b.1)

unknown_back : (code : ℕ) → Unknown code → (eqb code 0 || leb 5 code && leb code 127) ≡ true
unknown_back code (inl e) = rw (eq-eqb code 0 e)
unknown_back code (inr l) = rw (ne_eqb code 0 (λ e. omega arith), le-leb 5 code l.0, le-leb code 127 l.1)

last_test_is : (code last : ℕ) → (leb 2 code && leb code 4 && not (eqb last 0)) ≡ true → TwoToFour code × NotZero last
last_test_is code last e =
    let b = and_both (leb 2 code && leb code 4) (not (eqb last 0)) e in
    let c = and_both (leb 2 code) (leb code 4) b.0 in
    ((leb-true _ _ c.0, leb-true _ _ c.1), eqb-false last 0 (not-true _ b.1))

last_test_back : (code last : ℕ) → TwoToFour code × NotZero last → (leb 2 code && leb code 4 && not (eqb last 0)) ≡ true
last_test_back code last why = rw (le-leb 2 code why.0.0, le-leb code 4 why.0.1, ne_eqb last 0 why.1)

-- The number of a line is that of the first row whose reason holds; 0 where none does.
pub line_exactly : (line : List ℕ) → FirstOf (line_rows line) (refusal_in (read_line line))
unfolding line_refusal every
line_exactly line =
    rw (line_number line)
    (by_test_then 13 (not (eqb (length line) 8)) (length line ≢ 8) _ _ (λ e. eqb-false _ _ (not-true _ e)) (not_equal_when _ _) (λ eight.
    let long : length line ≡ 4 * 2 = eqb-true _ _ (not-false _ eight) in
    by_test_then 13 (not (every 4 (is_byte line))) (NonDigit line) _ _ (bytes_fail line 4 long) (fail_bytes line 4 long) (λ digits.
    let byte : (i : ℕ) → i < 4 → byte_at line i < 256 = λ i l. ltb-true _ _ (every_at (is_byte line) 4 i l (not-false _ digits)) in
    let first = byte 0 (omega arith) in
    let last = byte 3 (omega arith) in
    by_test 14 _ (Writes line 0 Unknown) _ _ (λ e. writes_read line 0 Unknown first (unknown _ e)) (λ w. unknown_back _ (read_writes line 0 Unknown w))
    (by_test 15 _ (Writes line 0 Private) _ _
    (λ e. writes_read line 0 Private first (leb-true 128 (byte_at line 0) e, omega arith)) (λ w. le-leb 128 (byte_at line 0) (read_writes line 0 Private w).0)
    (last_test 13 _ (Writes line 0 TwoToFour × Writes line 3 NotZero)
    (λ e. let t = last_test_is _ _ e in (writes_read line 0 TwoToFour first t.0, writes_read line 3 NotZero last t.1))
    (λ w. last_test_back _ _ (read_writes line 0 TwoToFour w.0, read_writes line 3 NotZero w.1)))))))

-- ---- an opening line
-- a test in two parts is two tests
when_both : (k : ℕ) (a b : Bool) (rest : ℕ) → suc k when not (a && b) or_else rest ≡ suc k when not a or_else suc k when not b or_else rest
when_both k true b rest = refl
when_both k false b rest = refl

number_then : {D : Type 0} (n : ℕ) (d : D) (o : Outcome D) → (unless n d o).answer.number ≡ n or_else o.answer.number
number_then zero d o = refl
number_then (suc n) d o = refl

-- a line of low to high characters, an even count, all digits (14), then the rest
form_rows : (low high : ℕ) (line : List ℕ) (rows : List Row) (rest : ℕ) → let n = length line in
    (low ≤ n → every (n / 2) (is_byte line) ≡ true → FirstOf rows rest)
    → FirstOf (14 because (n < low) ∷ 14 because (high < n) ∷ 14 because (n % 2 ≡ 1) ∷ 14 because (NonDigit line) ∷ rows)
    (14 when not (leb low n && leb n high && eqb (n % 2) 0 && every (n / 2) (is_byte line)) or_else rest)
form_rows low high line rows rest r =
    let n = length line in
    let digits = every (n / 2) (is_byte line) in
    rw (
      when_both 13 (leb low n && leb n high && eqb (n % 2) 0) digits rest,
      when_both 13 (leb low n && leb n high) (eqb (n % 2) 0) (14 when not digits or_else rest),
      when_both 13 (leb low n) (leb n high) (14 when not (eqb (n % 2) 0) or_else 14 when not digits or_else rest),
    )
    (by_test_then 13 (not (leb low n)) (n < low) _ _ (λ e. leb-false _ _ (not-true _ e)) (λ l. false_when _ (lt-leb _ _ l)) (λ long.
    by_test 13 (not (leb n high)) (high < n) _ _ (λ e. leb-false _ _ (not-true _ e)) (λ l. false_when _ (lt-leb _ _ l))
    (by_test_then 13 (not (eqb (n % 2) 0)) (n % 2 ≡ 1) _ _
    (λ e. omega (arith, eqb-false (n % 2) 0 (not-true _ e))) (λ odd. not_equal_when (n % 2) 0 (λ z. omega arith)) (λ even.
    let whole : n ≡ n / 2 * 2 = omega (arith, eqb-true (n % 2) 0 (not-false _ even)) in
    by_test_then 13 (not digits) (NonDigit line) _ _ (bytes_fail line (n / 2) whole) (fail_bytes line (n / 2) whole) (λ good.
    r (leb-true low n (not-false _ long)) (not-false _ good))))))

-- parts of the lengths that are asked for: S, the count of owners and the slot count are left to test
fresh_shaped : (s : ℕ) (owners : List ℕ) (slots : ℕ) → flat.shaped (fresh s owners slots) ≡ (sizes_good s (length owners) && leb slots 1024)
unfolding fresh
fresh_shaped s owners slots =
    let whole : slots * 5 % 5 ≡ 0 = omega arith in
    let many : slots * 5 / 5 ≡ slots = omega arith in
    rw (length-replicate {A = ℕ} (s * length owners) 0, length-replicate {A = ℕ} (slots * 5) 0, eq-eqb (s * length owners) (s * length owners) refl, whole, many)

-- S, a count of owners and a slot count that are too large, or S = 0
abbrev Unfit : ℕ → ℕ → ℕ → Type 0
Unfit s g slots = NoSiteCount s ⊎ ((1024 < slots) ⊎ (256 < g))

fresh_unfit : (s g slots : ℕ) → not (sizes_good s g && leb slots 1024) ≡ true → Unfit s g slots
fresh_unfit s g slots e = go (leb 1 s) (leb s 64) (leb g 256) (leb slots 1024) refl refl refl refl (not-true _ e)
  where
    go : (a b c d : Bool) → leb 1 s ≡ a → leb s 64 ≡ b → leb g 256 ≡ c → leb slots 1024 ≡ d → (a && b && c && d) ≡ false → Unfit s g slots
    go false b c d ea eb ec ed e = inl (inl (omega (arith, leb-false 1 s ea)))
    go true false c d ea eb ec ed e = inl (inr (leb-false s 64 eb))
    go true true false d ea eb ec ed e = inr (inr (leb-false g 256 ec))
    go true true true false ea eb ec ed e = inr (inl (leb-false slots 1024 ed))
    go true true true true ea eb ec ed e = absurd (true_not_false e)

unfit_fresh : (s g slots : ℕ) → Unfit s g slots → not (sizes_good s g && leb slots 1024) ≡ true
unfit_fresh s g slots (inl (inl z)) = rw (lt-leb 1 s (omega arith))
unfit_fresh s g slots (inl (inr l)) = rw (lt-leb s 64 l, and_false (leb 1 s))
unfit_fresh s g slots (inr (inl l)) = rw (lt-leb slots 1024 l, and_false (sizes_good s g))
unfit_fresh s g slots (inr (inr l)) = rw (lt-leb g 256 l, and_false (leb 1 s && leb s 64))

-- a line of three bytes or more
module _ (line : List ℕ) (long : 6 ≤ length line) (digits : every (length line / 2) (is_byte line) ≡ true) where
  byte : (i : ℕ) → i < length line / 2 → byte_at line i < 256
  byte i l = ltb-true _ _ (every_at (is_byte line) (length line / 2) i l digits)

  slots_written : (These : ℕ → Type 0) → These (slots_in line) → WritesSlots line These
  slots_written These these = writes_read line 1 _ (byte 1 (omega arith)) (writes_read line 2 _ (byte 2 (omega arith)) these)

  slots_read : (These : ℕ → Type 0) → WritesSlots line These → These (slots_in line)
  slots_read These w = read_writes line 2 _ (read_writes line 1 _ w)

  unfit : not (sizes_good (sites_in line) (owners_written line) && leb (slots_in line) 1024) ≡ true
      → NoSuchSizes line
  unfit e = go (fresh_unfit (sites_in line) (owners_written line) (slots_in line) e)
    where
      go : Unfit (sites_in line) (owners_written line) (slots_in line)
          → NoSuchSizes line
      go (inl h) = inl (writes_read line 0 NoSiteCount (byte 0 (omega arith)) h)
      go (inr (inl h)) = inr (inl (slots_written (λ slots. 1024 < slots) h))
      go (inr (inr h)) = inr (inr h)

  unfit_back : NoSuchSizes line
      → not (sizes_good (sites_in line) (owners_written line) && leb (slots_in line) 1024) ≡ true
  unfit_back (inl w) = unfit_fresh (sites_in line) (owners_written line) (slots_in line) (inl (read_writes line 0 NoSiteCount w))
  unfit_back (inr (inl w)) = unfit_fresh (sites_in line) (owners_written line) (slots_in line) (inr (inl (slots_read (λ slots. 1024 < slots) w)))
  unfit_back (inr (inr l)) = unfit_fresh (sites_in line) (owners_written line) (slots_in line) (inr (inr l))

  -- the owners are the bytes after the first three
  owners_many : length (owners_in line) ≡ owners_written line
  owners_many = length_up_to (owners_written line) (λ p. byte_at line (p + 3))

  owner_read : (p : ℕ) → p < owners_written line → get_or (owners_in line) p 0 ≡ byte_at line (p + 3)
  owner_read p l = up_to_at (owners_written line) (λ p. byte_at line (p + 3)) 0 p l

  no_site_owns : not (all_below (sites_in line) (owners_in line)) ≡ true → NoSiteOwns line
  unfolding all_below
  no_site_owns e = go (every_fails (byte_below (sites_in line) (owners_in line)) (length (owners_in line)) (not-true _ e))
    where
      go : (i : ℕ) × (i < length (owners_in line)) × (byte_below (sites_in line) (owners_in line) i ≡ false) → NoSiteOwns line
      go (i, l, f) =
          let inside : i < owners_written line = rw owners_many at l in
          let high : sites_in line ≤ byte_at line (i + 3) = rw (owner_read i inside) at (ltb-false (get_or (owners_in line) i 0) (sites_in line) f) in
          record {
            pointer = i;
            in_line = inside;
            no_site = writes_read line 0 _ (byte 0 (omega arith)) (writes_read line (i + 3) _ (byte (i + 3) (omega arith)) high);
          }

  no_site_back : NoSiteOwns line → not (all_below (sites_in line) (owners_in line)) ≡ true
  unfolding all_below
  no_site_back why =
      let p = why.pointer in
      let high = read_writes line (p + 3) _ (read_writes line 0 _ why.no_site) in
      let inside : p < length (owners_in line) = rw owners_many why.in_line in
      false_when _ (every_not (byte_below (sites_in line) (owners_in line)) (length (owners_in line)) p inside (rw (owner_read p why.in_line) (le-ltb _ _ high)))

  opening_rows : let d = fresh (sites_in line) (owners_in line) (slots_in line) in
      FirstOf (1 because (NoSuchSizes line) ∷ 2 because (NoSiteOwns line) ∷ []) (open_refusal flat d)
  unfolding open_refusal fresh
  opening_rows =
      rw (fresh_shaped (sites_in line) (owners_in line) (slots_in line), owners_many)
      (by_test 0 _ _ _ _ unfit unfit_back (last_test 1 _ _ no_site_owns no_site_back))

-- Its number is that of the first row whose reason holds; 0 where none does.
pub opening_line_exactly : (line : List ℕ) → FirstOf (opening_line_rows line) (opening line).answer.number
unfolding opening open_desk
opening_line_exactly line =
    let d = fresh (sites_in line) (owners_in line) (slots_in line) in
    rw (number_then (BadLine when not (opening_form line)) (fresh 0 [] 0) (open_desk flat d))
    (form_rows 6 518 line _ (open_desk flat d).answer.number (λ long digits.
    rw (number_of_unless (open_refusal flat d) d (record { answer = accepted 0 Nothing; desk = flat.cleared d }) refl) (opening_rows line long digits)))

-- An accepted opening line's desk has S, the slot count and every owner as the line's bytes write them.
pub opening_line_reads : (line : List ℕ) → (opening line).answer.number ≡ 0 → AsWritten line (opening line).desk
unfolding opening fresh
opening_line_reads line e =
    let d = fresh (sites_in line) (owners_in line) (slots_in line) in
    let q = or_else_none (BadLine when not (opening_form line)) (open_desk flat d).answer.number
    (sym (number_then (BadLine when not (opening_form line)) (fresh 0 [] 0) (open_desk flat d)) ∙ e) in
    let form = and_both (leb 6 (length line) && leb (length line) 518 && eqb (length line % 2) 0) _ (not-false _ (when_not 13 _ q.0)) in
    let long = leb-true 6 (length line) (and_both _ _ (and_both _ _ form.0).0).0 in
    let digits = form.1 in
    let many : flat.slots (flat.cleared d) ≡ slots_in line =
    rw (length-replicate {A = ℕ} (length d.pool) 0, length-replicate {A = ℕ} (slots_in line * 5) 0) (omega arith) in
    rw (q.0, opening_whole flat d (opening_number flat d q.1))
    (record {
      sites = writes_read line 0 _ (byte line long digits 0 (omega arith)) refl;
      slots = slots_written line long digits (λ slots. flat.slots (flat.cleared d) ≡ slots) many;
      pointers = owners_many line long digits;
      owners = λ p l. writes_read line (p + 3) _ (byte line long digits (p + 3) (omega arith)) (owner_read line long digits p l);
    })

-- ---- an input
-- an opening line has a number below 16
opening_few : (line : List ℕ) (n : ℕ) → FirstOf (opening_line_rows line) n → n < 16
unfolding FirstOf
opening_few line n (inl f) = omega (arith, f.1)
opening_few line n (inr (_, inl f)) = omega (arith, f.1)
opening_few line n (inr (_, inr (_, inl f))) = omega (arith, f.1)
opening_few line n (inr (_, inr (_, inr (_, inl f)))) = omega (arith, f.1)
opening_few line n (inr (_, inr (_, inr (_, inr (_, inl f))))) = omega (arith, f.1)
opening_few line n (inr (_, inr (_, inr (_, inr (_, inr (_, inl f)))))) = omega (arith, f.1)
opening_few line n (inr (_, inr (_, inr (_, inr (_, inr (_, inr f)))))) = omega (arith, f.1)

-- so what is written for lines is not the answer line of 17
no_17 : (lines : List (List ℕ)) → session lines ≡ answer_line (refused TooLong) → ⊥
unfolding session answer_line digits_of
no_17 [] e = omega (arith, ap length e)
no_17 (line ∷ lines) e =
    let few = opening_few line (opening line).answer.number (opening_line_exactly line) in
    let none : (opening line).answer.number / 16 ≡ 0 = omega arith in
    let first : digit_of ((opening line).answer.number / 16) ≡ 49 = ap (λ (text : List ℕ). get_or text 0 0) e in
    let q : digit_of 0 ≡ 49 = rw none at first in
    omega (arith, q)

-- The answer line of 17 is all that is written exactly where the input is above 8,192 bytes.
pub too_long_exactly : (input : List ℕ) → (transcript input ≡ answer_line (refused TooLong)) ↔ (8192 < length input)
unfolding transcript
too_long_exactly input = ((λ e. go (dec_lt 8192 (length input)) e), (λ l. rw (lt-ltb 8192 (length input) l)))
  where
    go : Dec (8192 < length input) → transcript input ≡ answer_line (refused TooLong) → 8192 < length input
    go (yes l) e = l
    go (no l) e = absurd (no_17 (lines_of input) (rw (le-ltb 8192 (length input) (omega arith)) at e))
