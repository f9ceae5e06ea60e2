-- What a call does is proper and keeps codes apart, since the cache that it leaves is lawful.
-- Assumes nothing.
use Prim.Native.Nat.{ℕ}
use mathlib.Core.Path.{refl}
use native.Mathlib.Omega.{arith}
use Rattle.head.specs.declared.Command.{Command}
use Rattle.model.specs.Desk.{Desk}
use Rattle.model.specs.Moves.{Move, stay, raise, set, renew, drop, place, replace, fit, sweep, clear, on_desk}
use Rattle.model.specs.Perform.{Cache, verdict, handed, perform}
use Rattle.model.specs.Claims.{Lawful}
use Rattle.model.proofs.Lawful.{Proper, Apart, step_lawful}
use Rattle.list.proofs.Marks.{hit}

lawful_proper : (m : Move) (d : Desk) → Lawful (on_desk m d) → Proper d m
lawful_proper stay d l = tt
lawful_proper (raise i) d l = tt
lawful_proper (set i v) d l = tt
lawful_proper (renew i v) d l = tt
lawful_proper (drop i) d l = tt
lawful_proper (place k e) d l = record { within = omega (arith, l.within); roomy = l.roomy; light = λ p. omega (arith, l.light p) }
lawful_proper (replace i k e) d l = record { within = omega (arith, l.within); roomy = l.roomy; light = λ p. omega (arith, l.light p) }
lawful_proper (fit k n) d l = (l.capacity.0, l.capacity.1, l.within)
lawful_proper (sweep q) d l = tt
lawful_proper clear d l = tt

lawful_apart : (m : Move) (d : Desk) → Lawful (on_desk m d) → Apart d m
lawful_apart stay d l = tt
lawful_apart (raise i) d l = tt
lawful_apart (set i v) d l = tt
lawful_apart (renew i v) d l = tt
lawful_apart (drop i) d l = tt
lawful_apart (place k e) d l = omega (arith, l.distinct e.code.0, hit e.code.0 e.code.0 refl)
lawful_apart (replace i k e) d l = omega (arith, l.distinct e.code.0, hit e.code.0 e.code.0 refl)
lawful_apart (fit k n) d l = tt
lawful_apart (sweep q) d l = tt
lawful_apart clear d l = tt

left_lawful : (m : Command) (lent : ℕ) (c : Cache) → Lawful c.desk → Lawful (on_desk (handed lent (verdict m c.desk)).move c.desk)
unfolding perform
left_lawful m lent c l = step_lawful (record { command = m; lent = lent }) c l

-- the move of a call is proper
pub call_proper : (m : Command) (lent : ℕ) (c : Cache) → Lawful c.desk → Proper c.desk (handed lent (verdict m c.desk)).move
call_proper m lent c l = lawful_proper (handed lent (verdict m c.desk)).move c.desk (left_lawful m lent c l)

-- and a code that comes in is not there yet
pub call_apart : (m : Command) (lent : ℕ) (c : Cache) → Lawful c.desk → Apart c.desk (handed lent (verdict m c.desk)).move
call_apart m lent c l = lawful_apart (handed lent (verdict m c.desk)).move c.desk (left_lawful m lent c l)
