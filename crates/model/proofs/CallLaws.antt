-- Four bytes as a call: the tests in their order, and the bytes of a call that was said.
use Prim.Native.Nat.{ℕ, zero, suc, ◌+◌, ◌*◌, ◌/◌, ◌%◌, ◌≤◌, ◌<◌}
use mathlib.Core.Path.{◌≡◌, refl, sym, ap, ◌∙◌}
use mathlib.Core.Bool.{Bool, true, false, ◌&&◌, ◌||◌, not}
use mathlib.Core.List.{List, [], ◌∷◌}
use native.Mathlib.Omega.{arith}
use lib.Dec.{leb, ltb, eqb}
use lib.ListN.{length}
use borrow.Author.Tests.{lt-ltb, eq-eqb, ltb-true, leb-false, eqb-true, eqb-false, not-false}
use Rattle.model.proofs.TestLaws.{and_both, or_neither, when_not, or_else_none, or_else_assoc}
use Rattle.model.specs.declared.Call.{Call}
use Rattle.model.specs.Lines.{Said, Refused}
use Rattle.model.specs.Refusals.{BadLine, UnknownCode, PrivateCode, ◌when◌, ◌or_else◌}
use Rattle.model.specs.Lines.{byte_at, bytes_of, call_of, line_refusal, said_unless, read_bytes, read_line}

-- an unknown code; a last byte that is not 00 where it should be
abbrev pub unknown : ℕ → Bool
unknown code = eqb code 0 || leb 5 code && leb code 127

abbrev pub unended : ℕ → ℕ → Bool
unended code c = leb 2 code && leb code 4 && not (eqb c 0)

module _ (code a b c : ℕ) where
  -- all four pairs of characters are bytes
  abbrev pub bytes : Bool
  bytes = ltb code 256 && ltb a 256 && ltb b 256 && ltb c 256

  pub each_below : bytes ≡ true → (code < 256) × (a < 256) × (b < 256) × (c < 256)
  each_below t =
      let t1 = and_both (ltb code 256 && ltb a 256 && ltb b 256) (ltb c 256) t in
      let t2 = and_both (ltb code 256 && ltb a 256) (ltb b 256) t1.0 in
      let t3 = and_both (ltb code 256) (ltb a 256) t2.0 in
      (ltb-true code 256 t3.0, ltb-true a 256 t3.1, ltb-true b 256 t2.1, ltb-true c 256 t1.1)

  pub all_bytes : code < 256 → a < 256 → b < 256 → c < 256 → bytes ≡ true
  all_bytes h i j k = simp (lt-ltb code 256 h, lt-ltb a 256 i, lt-ltb b 256 j, lt-ltb c 256 k)

  -- no digit: 14; four bytes: the code's number, then the last byte's
  pub no_bytes : bytes ≡ false → Refused BadLine ≡ read_bytes code a b c
  unfolding line_refusal
  no_bytes t = simp t

  pub order_of_tests : bytes ≡ true → (UnknownCode when unknown code or_else PrivateCode when leb 128 code) or_else BadLine when unended code c ≡ line_refusal code a b c
  unfolding line_refusal
  order_of_tests t = or_else_assoc (UnknownCode when unknown code) (PrivateCode when leb 128 code) (BadLine when unended code c) ∙ simp t

-- ---- a number, and a call where it is 0
pub refused_by : (n m : ℕ) (call : Call) → n ≡ m → (n ≡ 0 → ⊥) → Refused n ≡ said_unless m call
refused_by zero m call e h = absurd (h refl)
refused_by (suc n) m call e h = rw (← e)

pub said_by : (n m : ℕ) {said call : Call} → n ≡ m → n ≡ 0 → said ≡ call → Said said ≡ said_unless m call
said_by n m e z q = rw (← e, z, q)

-- a line of eight characters is what its four bytes say
pub line_by_bytes : (line : List ℕ) (code a b c : ℕ) → length line ≡ 8 → code ≡ byte_at line 0 → a ≡ byte_at line 1 → b ≡ byte_at line 2 → c ≡ byte_at line 3
    → read_bytes code a b c ≡ read_line line
unfolding read_line
line_by_bytes line code a b c e p q r s = simp (p, q, r, s, eq-eqb (length line) 8 e)

-- ---- a call that was said
said_of : (n : ℕ) (k call : Call) → said_unless n k ≡ Said call → (n ≡ 0) × (k ≡ call)
said_of zero k call e = (refl, cc)
said_of (suc n) k call e = let z : ◌≡◌ {A = ℕ} 0 1 = cc in absurd (omega arith)

not_zero : (n : ℕ) → (n ≡ 0 → ⊥) → 1 ≤ n
not_zero zero h = absurd (h refl)
not_zero (suc n) h = omega arith

not_middle : (n : ℕ) → n < 128 → (leb 5 n && leb n 127) ≡ false → n ≤ 4
not_middle n h e = go (leb 5 n) refl e
  where
    go : (t : Bool) → leb 5 n ≡ t → (t && leb n 127) ≡ false → n ≤ 4
    go true l e = let r = leb-false n 127 e in absurd (omega arith)
    go false l e = let r = leb-false 5 n l in omega arith

-- the call of a code from 01 to 04 has the bytes that it is made of, where the last byte is 00 after 02 to 04
bytes_by_code : (code a b c : ℕ) → 1 ≤ code → code ≤ 4 → b < 256 → unended code c ≡ false
    → bytes_of (call_of code a b c) ≡ code ∷ a ∷ b ∷ c ∷ []
bytes_by_code zero a b c low high h z = absurd (omega arith)
bytes_by_code (suc zero) a b c low high h z = refl
bytes_by_code (suc (suc zero)) a b c low high h z =
    let last = eqb-true c 0 (not-false (eqb c 0) z) in
    let p : (a * 256 + b) / 256 ≡ a = omega arith in
    let q : (a * 256 + b) % 256 ≡ b = omega arith in
    rw (p, q, last)
bytes_by_code (suc (suc (suc zero))) a b c low high h z = rw (eqb-true c 0 (not-false (eqb c 0) z))
bytes_by_code (suc (suc (suc (suc zero)))) a b c low high h z = rw (eqb-true c 0 (not-false (eqb c 0) z))
bytes_by_code (suc (suc (suc (suc (suc n))))) a b c low high h z = absurd (omega arith)

-- its bytes are the four that said it
pub bytes_of_said : (code a b c : ℕ) (call : Call) → read_bytes code a b c ≡ Said call → (bytes code a b c ≡ true) × (bytes_of call ≡ code ∷ a ∷ b ∷ c ∷ [])
unfolding line_refusal
bytes_of_said code a b c call e =
    let s = said_of (line_refusal code a b c) (call_of code a b c) call e in
    let z1 = or_else_none (BadLine when not (bytes code a b c)) (UnknownCode when unknown code or_else PrivateCode when leb 128 code or_else BadLine when unended code c) s.0 in
    let z2 = or_else_none (UnknownCode when unknown code) (PrivateCode when leb 128 code or_else BadLine when unended code c) z1.1 in
    let z3 = or_else_none (PrivateCode when leb 128 code) (BadLine when unended code c) z2.1 in
    let t = not-false (bytes code a b c) (when_not 13 (not (bytes code a b c)) z1.0) in
    let known = or_neither (eqb code 0) (leb 5 code && leb code 127) (when_not 14 (unknown code) z2.0) in
    let nonzero = eqb-false code 0 known.0 in
    let below = leb-false 128 code (when_not 15 (leb 128 code) z3.0) in
    let high : code ≤ 4 = not_middle code below known.1 in
    (t, ap bytes_of (sym s.1) ∙ bytes_by_code code a b c (omega (arith, not_zero code nonzero)) high (each_below code a b c t).2 (when_not 13 (unended code c) z3.1))
