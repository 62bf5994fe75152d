-- Word after word, each 2 to the owner.
use Rattle.std.proofs.Common.{◌≡◌, ◌^◌, map, take}
use Rattle.bits.proofs.owners.owner_bits.Given as goal

abbrev pub invariant-loop-p : goal.invariant-loop-p
invariant-loop-p l = take l.p l.words ≡ map (λ owner. 2 ^ owner) (take l.p l.owners)
