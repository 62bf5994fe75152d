-- No two answers meet the promise of a question about a book: its check, its search, and the number and the part that are handed out for an address.
use Prim.Native.Nat.{ℕ}
use mathlib.Core.Path.{◌≡◌, ap}
use mathlib.Core.List.{List}
use denote.Ref.{Bor}
use Rattle.std.specs.Prelude.{Result, Ok, Err, IfOk}
use Rattle.std.specs.Result.{result_map_both}
use Rattle.rules.specs.declared.answer.Accepted.{Accepted}
use Rattle.rules.specs.declared.refusal.Refusal.{Refusal}
use Rattle.rules.specs.Turned.{number_in, told}
use Rattle.book.specs.Part.{Part, seen}
use Rattle.book.specs.Book.{address_number, address_part, check_answer, search_answer}
use Rattle.model.proofs.OneOutcome.{one_outcome, one_answer}
use Rattle.rules.proofs.TurnedLaws.{number_given}
use Rattle.rules.proofs.OneAnswer.{same_refusal, same_told}

module _ (s : ℕ) (owners : List ℕ) where
  module _ (book : List ℕ) where
    -- what `check` promises
    abbrev pub CheckPromise : Result Accepted Refusal → Type 0
    CheckPromise r = told r ≡ check_answer s owners book

    pub no_two_checks : {r q : Result Accepted Refusal} → CheckPromise r → CheckPromise q → r ≡ q
    no_two_checks {r} {q} e f = same_told r q (one_answer e f)

    -- what `search` promises
    abbrev pub SearchPromise : ℕ → List ℕ → Result Accepted Refusal → Type 0
    SearchPromise owner wanted r = told r ≡ search_answer s owners book owner wanted

    pub no_two_searches : (owner : ℕ) (wanted : List ℕ) {r q : Result Accepted Refusal} → SearchPromise owner wanted r → SearchPromise owner wanted q → r ≡ q
    no_two_searches owner wanted {r} {q} e f = same_told r q (one_answer e f)

  module _ (book : Bor (List ℕ)) (pointer : ℕ) where
    -- what `address` promises of the number
    abbrev pub AddressNumberPromise : Result (Bor (List ℕ)) Refusal → Type 0
    AddressNumberPromise r = number_in r ≡ address_number s owners book.now pointer

    pub no_two_address_numbers : (r q : Result (Bor (List ℕ)) Refusal) → AddressNumberPromise r → AddressNumberPromise q → number_in r ≡ number_in q
    no_two_address_numbers r q e f = one_answer e f

    -- what `address` promises of the part
    abbrev pub AddressPromise : Result (Bor (List ℕ)) Refusal → Type 0
    AddressPromise r = IfOk r (λ part. seen part ≡ address_part s owners (seen book) pointer)

    -- of what is handed out: the block, the place and the bytes
    pub handed_fixed : (r q : Bor (List ℕ)) → AddressPromise (Ok r) → AddressPromise (Ok q) → (r.ref_ptr.0 ≡ q.ref_ptr.0) × (r.ref_ptr.1 ≡ q.ref_ptr.1) × (r.now ≡ q.now)
    handed_fixed r q e f = (one_outcome (λ (part : Part). part.block) e f, one_outcome (λ (part : Part). part.place) e f, one_outcome (λ (part : Part). part.bytes) e f)

    -- what `address_part` promises
    abbrev pub PartPromise : Bor (List ℕ) → Type 0
    PartPromise r = seen r ≡ address_part s owners (seen book) pointer

    pub no_two_parts : {r q : Bor (List ℕ)} → PartPromise r → PartPromise q → seen r ≡ seen q
    no_two_parts {r} {q} e f = one_answer e f

    -- so any two results are refused alike, or hand out the same part
    pub no_two_addresses : (r q : Result (Bor (List ℕ)) Refusal) → AddressNumberPromise r → AddressNumberPromise q → AddressPromise r → AddressPromise q
        → result_map_both seen (λ refusal. refusal) r ≡ result_map_both seen (λ refusal. refusal) q
    no_two_addresses (Ok r) (Ok q) n m e f = ap Ok (one_answer e f)
    no_two_addresses (Ok r) (Err b) n m e f = absurd (number_given b (one_answer m n))
    no_two_addresses (Err a) (Ok q) n m e f = absurd (number_given a (one_answer n m))
    no_two_addresses (Err a) (Err b) n m e f = ap Err (same_refusal a b (one_answer n m))
