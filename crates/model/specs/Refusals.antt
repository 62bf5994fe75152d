-- Document 01, "Why a call is turned down": the numbers by their names, and an order of tests.
use Rattle.std.specs.Prelude.{ℕ, zero, suc, Bool, cond}

abbrev pub BadShape : ℕ
BadShape = 1

abbrev pub BadTable : ℕ
BadTable = 2

abbrev pub BadName : ℕ
BadName = 3

abbrev pub SameSite : ℕ
SameSite = 4

abbrev pub NotHeld : ℕ
NotHeld = 5

abbrev pub CounterFull : ℕ
CounterFull = 6

abbrev pub PoolFull : ℕ
PoolFull = 7

abbrev pub EmptySlot : ℕ
EmptySlot = 8

abbrev pub Held : ℕ
Held = 9

abbrev pub CounterZero : ℕ
CounterZero = 10

abbrev pub IsOwner : ℕ
IsOwner = 11

abbrev pub StillCounted : ℕ
StillCounted = 12

abbrev pub NotOwner : ℕ
NotOwner = 13

abbrev pub BadLine : ℕ
BadLine = 14

abbrev pub UnknownCode : ℕ
UnknownCode = 15

abbrev pub PrivateCode : ℕ
PrivateCode = 16

abbrev pub TooLong : ℕ
TooLong = 17

abbrev pub BadBook : ℕ
BadBook = 18

abbrev pub Twins : ℕ
Twins = 19

abbrev pub NotListed : ℕ
NotListed = 20

-- Document 02, Three
-- a number that is given when a test holds; 0 where it does not
infix 25 ◌when◌
abbrev pub ◌when◌ : ℕ → Bool → ℕ
n when b = cond b n 0

-- the order of tests: the first number that is given; 0 where none is
infixr 20 ◌or_else◌
abbrev pub ◌or_else◌ : ℕ → ℕ → ℕ
zero or_else n = n
suc m or_else n = suc m
