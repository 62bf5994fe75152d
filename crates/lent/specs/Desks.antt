-- What the host lends, as Rust code reads it: what a question answers, and what a call decides to write.
use Rattle.std.specs.Prelude.{ℕ, Bool, true, ◌*◌, ◌<◌, ◌≤◌, ◌≡◌, List, length, set, Result, Ok, Err, pos, ℤ}
use Rattle.model.specs.Answers.{Outcome}
use Rattle.model.specs.Layout.{Layout}
use Rattle.model.specs.Laws.{Inside}
use Rattle.model.specs.Parts.{ReceiveTable, Pool, desk_of}
use Rattle.model.specs.Questions.{lowest, how_many}
use Rattle.model.specs.Tables.{Lent, Empties, lent, all_below}
use Rattle.model.specs.Survey.{Share, blank_sheet}
use Rattle.rules.specs.declared.refusal.Refusal.{Refusal}
use Rattle.rules.specs.Turned.{number_of, told}
use Rattle.lent.specs.declared.change.Change.{Change}

-- a share's answer: after a refusal the share is 0
abbrev pub share_told : Result ℤ Refusal → Share
share_told (Ok n) = record { number = 0; share = n }
share_told (Err refusal) = record { number = number_of refusal; share = pos 0 }

-- the rows of a sheet: after a refusal all are 0
abbrev pub rows_told : Result (List (List ℕ)) Refusal → List (List ℕ)
rows_told (Ok rows) = rows
rows_told (Err refusal) = blank_sheet

-- what the search of a pool answers: over slots of w bytes it is `searched w` of model
abbrev pub searched_in : {Q : Type 0} → Pool Q → Q → Empties
searched_in P q = record { slot = lowest (P.slots q) (P.empty q); count = how_many (P.slots q) (P.empty q) }

module _ {R Q : Type 0} (T : ReceiveTable R) (P : Pool Q) (d : Lent R Q) where
  abbrev L : Layout (Lent R Q)
  L = desk_of T P

  -- what is known where 1, 2 and 3 are not given
  pub record Passed (named : Bool) : Type 0 where
    pub is_named : named ≡ true
    pub few_sites : d.S ≤ 64
    pub few_pointers : length d.owners ≤ 256
    pub few_slots : P.slots d.pool ≤ 1024
    pub send_length : length d.send ≡ d.S * length d.owners
    pub receive_fits : T.fits d.S (length d.owners) d.receive ≡ true
    pub receive_bits : T.bits d.S d.receive ≡ true
    pub pool_fits : P.fits d.S d.pool ≡ true
    pub owners_below : all_below d.S d.owners ≡ true
    pub slots_good : P.slots_good d.S (length d.owners) d.pool ≡ true

  -- what is known where an opening is not turned down
  pub record Openable : Type 0 where
    pub few_sites : d.S ≤ 64
    pub few_pointers : length d.owners ≤ 256
    pub receive_fits : T.fits d.S (length d.owners) d.receive ≡ true
    pub pool_fits : P.fits d.S d.pool ≡ true
    pub owners_good : all_below d.S d.owners ≡ true

  -- the places of a change lie in what is lent, its cell is a bit, and its message is in range
  pub record Placed (c : Change) : Type 0 where
    pub few_sites : d.S ≤ 64
    pub few_pointers : length d.owners ≤ 256
    pub a_site : c.site < d.S
    pub a_pointer : c.pointer < length d.owners
    pub in_send : c.at < length d.send
    pub receive_fits : T.fits d.S (length d.owners) d.receive ≡ true
    pub pool_fits : P.fits d.S d.pool ≡ true
    pub in_pool : c.slot < P.slots d.pool
    pub bit : c.cell ≤ 1
    pub inside : Inside d.S (length d.owners) c.answer.posted

  -- its answer, and the desk with its counter and its slot written
  abbrev pub counter_written : Change → Outcome (Lent R Q)
  counter_written c =
      record {
        answer = told (Ok c.answer);
        desk = L.post (lent d.S d.owners (set d.send c.at c.counter) d.receive d.pool) c.slot c.answer.posted;
      }

  -- with its cell and its slot
  abbrev pub cell_written : Change → Outcome (Lent R Q)
  cell_written c =
      record {
        answer = told (Ok c.answer);
        desk = L.post (L.set_cell d c.site c.pointer c.cell) c.slot c.answer.posted;
      }

  -- with all three, where the slot's message is handled
  abbrev pub all_written : Change → Outcome (Lent R Q)
  all_written c =
      let e = L.handled d c.slot in
      record {
        answer = told (Ok c.answer);
        desk = L.post (L.set_cell (lent e.S e.owners (set e.send c.at c.counter) e.receive e.pool) c.site c.pointer c.cell) c.slot c.answer.posted;
      }
