-- The larger of two bytes is below a limit where both are.
use Prim.Native.Nat.{ℕ, max}
use mathlib.Core.Path.{◌≡◌}
use mathlib.Core.Bool.{◌&&◌}
use native.Mathlib.Omega.{arith}
use lib.Dec.{ltb}
use borrow.Author.Tests.{ltb-true, lt-ltb}
use Rattle.model.proofs.TestLaws.{same_test, and_both}

pub larger_below : (m x n : ℕ) {larger : ℕ} → larger ≡ max m x → ltb larger n ≡ (ltb m n && ltb x n)
larger_below m x n {larger} e =
    same_test (ltb larger n) (ltb m n && ltb x n)
    (λ q. let l = ltb-true larger n q in rw (lt-ltb m n (omega arith), lt-ltb x n (omega arith)))
    (λ q.
    let b = and_both (ltb m n) (ltb x n) q in
    let lm = ltb-true m n b.0 in
    let lx = ltb-true x n b.1 in
    lt-ltb larger n (omega arith))
