-- Document 01, "Share and sheet", over any layout.
use Rattle.std.specs.Prelude.{ℕ, zero, suc, ◌+◌, ◌&&◌, not, cond, List, [], ltb, eqb, ℤ, pos, ◌+ℤ◌, ◌-ℤ◌, get_or, replicate}
use Rattle.model.specs.declared.Posted.{Posted}
use Rattle.model.specs.declared.Posted.TheVariants.{Copy, Dec, IncDec, Nothing}
use Rattle.model.specs.Refusals.{IsOwner, ◌when◌, ◌or_else◌}
use Rattle.model.specs.Questions.{total, up_to}
use Rattle.model.specs.Messages.{kind_of, is_nothing, pointer_of, is_inc_dec}
use Rattle.model.specs.Layout.{Layout}
use Rattle.model.specs.Calls.{front}

-- ---- what a message counts: 1 where it is a COPY, a DEC, an INC_DEC from a to b for p, else 0
abbrev pub copies : ℕ → ℕ → ℕ → Posted → ℕ
copies a b p (Copy from to q) = 1 when (eqb from a && eqb to b && eqb q p)
copies a b p (Dec from to q) = 0
copies a b p (IncDec from to third q) = 0
copies a b p Nothing = 0

abbrev pub decs : ℕ → ℕ → ℕ → Posted → ℕ
decs a b p (Copy from to q) = 0
decs a b p (Dec from to q) = 1 when (eqb from a && eqb to b && eqb q p)
decs a b p (IncDec from to third q) = 0
decs a b p Nothing = 0

abbrev pub inc_decs : ℕ → ℕ → ℕ → Posted → ℕ
inc_decs a b p m = 1 when is_inc_dec a b p m

-- the column of a message: the site whose counter it acts on, the sender of a COPY, the receiver of a DEC, the third site of an INC_DEC (Document 02, Two; source document 001, Definition 3)
abbrev pub column : Posted → ℕ
column (Copy from to p) = from
column (Dec from to p) = to
column (IncDec from to third p) = third
column Nothing = 0

-- 1 where a message of pointer p acts on the counter of s, else 0
abbrev pub controls : ℕ → ℕ → Posted → ℕ
controls s p m = 1 when (not (is_nothing m) && eqb (column m) s && eqb (pointer_of m) p)

-- 1 where a message of pointer p is of this kind and entered in this column, else 0
abbrev pub entered : ℕ → ℕ → ℕ → Posted → ℕ
entered p kind site m = 1 when (eqb (kind_of m) kind && eqb (column m) site && eqb (pointer_of m) p)

-- plus less minus, a whole number of either sign
unfoldable pub balance : ℕ → ℕ → ℤ
balance plus minus = pos plus -ℤ pos minus

-- f 0 + .. + f (n - 1), whole numbers of either sign
unfoldable pub sumℤ : ℕ → (ℕ → ℤ) → ℤ
sumℤ zero f = pos 0
sumℤ (suc n) f = sumℤ n f +ℤ f n

-- a share's answer: a refusal number and one signed whole number
pub record Share : Type 0 where
  pub number : ℕ
  pub share : ℤ

-- what stands in a row and a column of a sheet
abbrev pub entry_of : List (List ℕ) → ℕ → ℕ → ℕ
entry_of rows row site = get_or (get_or rows row []) site 0

-- three rows of 64 zeros
abbrev pub blank_sheet : List (List ℕ)
blank_sheet = replicate 3 (replicate 64 0)

module _ {D : Type 0} (L : Layout D) where
  open L use {sites, pointers, owner, cell, slots, message}

  -- how many messages in flight, each with its weight
  abbrev pub in_flight : D → (Posted → ℕ) → ℕ
  in_flight d weight = total (slots d) (λ slot. weight (message d slot))

  -- ---- share (site, pointer)
  unfoldable pub share_number : D → ℕ → ℕ → ℕ
  share_number d site p =
      front L d (ltb site (sites d) && ltb p (pointers d))
      or_else IsOwner when eqb site (owner d p)

  -- its receive cell, plus DECs from it to the owner, plus COPYs from the owner to it
  unfoldable pub share_plus : D → ℕ → ℕ → ℕ
  share_plus d site p = cell d site p + in_flight d (decs site (owner d p) p) + in_flight d (copies (owner d p) site p)

  -- minus INC_DECs from it to the owner
  unfoldable pub share_minus : D → ℕ → ℕ → ℕ
  share_minus d site p = in_flight d (inc_decs site (owner d p) p)

  abbrev pub share_of : D → ℕ → ℕ → ℤ
  share_of d site p = balance (share_plus d site p) (share_minus d site p)

  -- the sum of the shares of all sites but the owner
  unfoldable pub shares_of_others : D → ℕ → ℤ
  shares_of_others d p = sumℤ (sites d) (λ site. cond (eqb site (owner d p)) (pos 0) (share_of d site p))

  -- after a refusal the share is 0
  unfoldable pub share : D → ℕ → ℕ → Share
  share d site p =
      record {
        number = share_number d site p;
        share = cond (eqb (share_number d site p) 0) (share_of d site p) (pos 0);
      }

  -- ---- sheet (pointer)
  unfoldable pub sheet_number : D → ℕ → ℕ
  sheet_number d p = front L d (ltb p (pointers d))

  -- three rows, one for each message kind, of 64 columns, one for each site; after a refusal all are 0
  unfoldable pub sheet : D → ℕ → List (List ℕ)
  sheet d p =
      cond (eqb (sheet_number d p) 0)
      (up_to 3 (λ row. up_to 64 (λ site. in_flight d (entered p (row + 1) site))))
      blank_sheet
