-- Of every desk whose receive table and pool keep their laws: between which ends a share lies, and which columns of a sheet are 0.
use Rattle.std.specs.Prelude.{ℕ, ◌≡◌, ◌≤◌, ◌<◌, [], pos, get_or}
use lib.IntN.{negsuc}
use lib.Signed.{◌≤ℤ◌}
use Rattle.model.specs.Parts.{ReceiveTable, Pool, LawfulCells, LawfulPool, desk_of}
use Rattle.model.specs.Survey.{share, sheet}
use Rattle.model.specs.Tables.{Lent}
use Rattle.model.proofs.PartLaws.{desk_laws}
use Rattle.slots.proofs.ShareRange.{share_between}
use Rattle.slots.proofs.SheetColumns.{column_above_sites}

module _ {R Q : Type 0} (T : ReceiveTable R) (P : Pool Q) (C : LawfulCells T) (O : LawfulPool P) (d : Lent R Q) where
  -- The share that a desk answers lies from minus 1,024 to 1,025, for all lent tables, all sites and all pointers.
  pub share_from_minus_1024_to_1025 : (site p : ℕ) → (negsuc 1023 ≤ℤ (share (desk_of T P) d site p).share) × ((share (desk_of T P) d site p).share ≤ℤ pos 1025)
  share_from_minus_1024_to_1025 = share_between (desk_of T P) (desk_laws T P C O) d

  -- Every column at or above S is 0, in every row, for all lent tables and all pointers.
  pub columns_above_sites_0 : (p row site : ℕ) → row < 3 → site < 64 → d.S ≤ site → get_or (get_or (sheet (desk_of T P) d p) row []) site 0 ≡ 0
  columns_above_sites_0 p row site lr ls = column_above_sites (desk_of T P) d p row site lr ls (desk_laws T P C O)
