-- The calls that look for a code, by what the search found.
-- Assumes nothing.
use Rattle.std.proofs.Common.{◌≡◌, ℕ, true, false, List, get_or, sym, refl, ap, ◌∙◌, arith}
use lib.Dec.{leb-zero}
use Rattle.head.specs.declared.Head.{Head}
use Rattle.head.specs.declared.Slot.{Slot}
use Rattle.head.specs.declared.Row.{Row}
use Rattle.head.specs.declared.Answer.{Answer}
use Rattle.head.specs.declared.Answer.TheVariants.{Was, Is, Flag}
use Rattle.head.specs.declared.Refusal.TheVariants.{WrongKind}
use Rattle.head.specs.Bounds.{plain_kind}
use Rattle.model.specs.Desk.{Kind, plain, weighed, kind_number, Desk, find, on_found}
use Rattle.model.specs.Moves.{stay, set, renew}
use Rattle.model.specs.Calls.{Verdict, saying, on_plain, contains_call, peek_call, get_call, pop_call}
use Rattle.model.specs.Perform.{Cache, handed}
use Rattle.table.specs.declared.Search.{Search}
use Rattle.table.specs.declared.Search.TheVariants.{Found as FoundSlot, Empty}
use Rattle.plan.specs.declared.Decision.{Decision}
use Rattle.plan.specs.declared.Plan.TheVariants.{Raise, Set, Renew, Drop}
use Rattle.plan.specs.Plans.{said, denied}
use Rattle.decide.specs.Views.{Sought}
use Rattle.decide.specs.Settled.{Settles}
use Rattle.decide.proofs.Pointing.{points, misses}

-- the kind by its number
pub kind_plain : (k : Kind) → kind_number k ≡ plain_kind → k ≡ plain
kind_plain plain e = refl
kind_plain weighed e = absurd (omega arith)

pub kind_weighed : (k : Kind) → (kind_number k ≡ plain_kind → ⊥) → k ≡ weighed
kind_weighed plain n = absurd (n refl)
kind_weighed weighed n = refl

plain_call : (k : Kind) (v : Verdict) → kind_number k ≡ plain_kind → on_plain k v ≡ v
plain_call k v e = rw (kind_plain k e) refl

-- an answer that changes nothing
pub says : (P : Cache → Type 0) (lent : ℕ) {a : Answer} {r : Decision} → r ≡ said a → Settles P (λ d. saying a stay) lent r
says P lent z = record { means = λ c v. rw (leb-zero lent, z) refl; named = λ c v. rw z tt }

module _ {h : Head} {values : List ℕ} {a : Search} {code : ℕ} (lent : ℕ) where
  -- ---- a call for plain caches

  pub on_plain_lem : (call : Desk → Verdict) {r : Decision} → h.kind ≡ plain_kind → Settles (Sought h values a code) call lent r
      → Settles (Sought h values a code) (λ d. on_plain d.kind (call d)) lent r
  on_plain_lem call k p = record {
    means = λ c v. ap (handed lent) (plain_call c.desk.kind (call c.desk) (sym v.described.kind ∙ k)) ∙ p.means c v;
    named = p.named;
  }

  pub not_plain : (call : Desk → Verdict) {r : Decision} → (h.kind ≡ plain_kind → ⊥) → r ≡ denied WrongKind
      → Settles (Sought h values a code) (λ d. on_plain d.kind (call d)) lent r
  not_plain call n z = record {
    means = λ c v. rw (kind_weighed c.desk.kind (λ e. n (v.described.kind ∙ e)), leb-zero lent, z) refl;
    named = λ c v. rw z tt;
  }

  -- ---- the code is absent

  pub if_absent : (none : Desk → Verdict) (some : Desk → ℕ → Row → Verdict) {cell count : ℕ} {r : Decision} → a ≡ Empty cell count
      → Settles (Sought h values a code) none lent r
      → Settles (Sought h values a code) (λ d. on_found (find code d.entries) (none d) (some d)) lent r
  if_absent none some e p = record { means = λ c v. rw (misses v e) (p.means c v); named = p.named }

  pub contains_none : {cell count : ℕ} {r : Decision} → a ≡ Empty cell count → r ≡ said (Flag false) → Settles (Sought h values a code) (contains_call code) lent r
  contains_none e z = record { means = λ c v. rw (misses v e, leb-zero lent, z) refl; named = λ c v. rw z tt }

  -- ---- the code is found

  module _ {s : Slot} {cell count : ℕ} (e : a ≡ FoundSlot s cell count) where
    pub contains_some : {r : Decision} → r ≡ said (Flag true) → Settles (Sought h values a code) (contains_call code) lent r
    contains_some z = record { means = λ c v. rw ((points v e).found, leb-zero lent, z) refl; named = λ c v. rw z tt }

    pub peek_found : {r : Decision} → r ≡ said (Is (get_or values s.0 0)) → Settles (Sought h values a code) (peek_call code) lent r
    peek_found z = record { means = λ c v. rw ((points v e).found, leb-zero lent, z) refl; named = λ c v. rw z tt }

    pub get_found : Settles (Sought h values a code) (get_call code) lent (record { answer = Is (get_or values s.0 0); plan = Raise s })
    get_found = record { means = λ c v. rw ((points v e).found, leb-zero lent) refl; named = λ c v. (points v e).there }

    pub pop_found : Settles (Sought h values a code) (pop_call code) lent (record { answer = Was (get_or values s.0 0) 0; plan = Drop s })
    pop_found = record { means = λ c v. rw ((points v e).found, leb-zero lent) refl; named = λ c v. (points v e).there }

    -- the entry takes a value, and moves to the front or stays

    pub renew_found : (none : Desk → Verdict) (x : ℕ)
        → Settles (Sought h values a code) (λ d. on_found (find code d.entries) (none d) (λ i e. saying (Was e.value 0) (renew i x))) lent (record { answer = Was (get_or values s.0 0) 0; plan = Renew s x })
    renew_found none x = record { means = λ c v. rw ((points v e).found, leb-zero lent) refl; named = λ c v. (points v e).there }

    pub set_found : (none : Desk → Verdict) (x : ℕ)
        → Settles (Sought h values a code) (λ d. on_found (find code d.entries) (none d) (λ i e. saying (Was e.value 0) (set i x))) lent (record { answer = Was (get_or values s.0 0) 0; plan = Set s x })
    set_found none x = record { means = λ c v. rw ((points v e).found, leb-zero lent) refl; named = λ c v. (points v e).there }
