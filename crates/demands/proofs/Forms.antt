-- What `door::call` and `door::tell` promise of a command is the contract of the public call of that command.
-- Assumes nothing.
use Prim.Native.Nat.{ℕ}
use mathlib.Core.Bool.{true, false≢true}
use mathlib.Core.List.{List, []}
use mathlib.Core.Logic.{⊎_elim}
use mathlib.Core.Path.{◌≡◌, refl, ap, ◌∙◌, subst}
use Rattle.head.specs.declared.Row.{Row}
use Rattle.head.specs.declared.Answer.{Answer}
use Rattle.head.specs.declared.Command.{Command}
use Rattle.head.specs.declared.Form.{Form}
use Rattle.head.specs.declared.Form.TheVariants.{Reading, Listing, Acting, Handing}
use Rattle.head.specs.Fields.{Fields}
use Rattle.head.specs.Forms.{form_of}
use Rattle.model.specs.Desk.{Desk}
use Rattle.model.specs.Moves.{stay}
use Rattle.model.specs.Calls.{Verdict}
use Rattle.model.specs.Perform.{Cache, Outcome, verdict, perform}
use Rattle.model.proofs.Forms.{Formed, formed, handed_any, perform_any, perform_none, handed_stays}
use Rattle.rows.specs.Written.{Written}
use Rattle.rows.proofs.Nothing.{written_none}
use Rattle.plan.specs.States.{State, Means}
use Rattle.plan.specs.Plans.{cells_stay}
use Rattle.door.specs.Served.{Serves, Calls, Tells, is_teller, shortest}
use Rattle.outcomes.proofs.Decided.{sound?}
use Rattle.outcomes.proofs.Untouched.{untouched}
use Rattle.demands.specs.Runs.{Contract}

-- where no row is handed out the row lists stay
rows_stay : (m : Command) (lent : ℕ) {rows rows' : Fields} (c : Cache) → (verdict m c.desk).rows ≡ [] → Written (perform m lent c).rows rows rows' → rows' ≡ rows
rows_stay m lent {rows} {rows'} c e w = written_none (subst (λ (l : List Row). Written l rows rows') (perform_none m lent c e) w)

-- ---- `door::call`

module _ {m : Command} {s t : State} {rows rows' : Fields} {a : Answer} (x : Calls m s t rows rows' a) where
  -- a call that stays leaves the state
  stays : ((c : Cache) → (verdict m c.desk).move ≡ stay) → t ≡ s
  stays q =
      ⊎_elim
      (λ w. untouched x.serves w.described (handed_stays (shortest rows) (verdict m w.cache.desk) (q w.cache)))
      (λ n. (x.serves.unsound n).1)
      (sound? s)

  -- a call without rows leaves the row lists
  keeps : ((c : Cache) → (verdict m c.desk).rows ≡ []) → rows' ≡ rows
  keeps q = ⊎_elim (λ w. rows_stay m (shortest rows) w.cache (q w.cache) (x.hands w.cache w.described)) (λ n. x.unsound n) (sound? s)

  -- and is served with none lent
  serves_none : ((c : Cache) → (verdict m c.desk).rows ≡ []) → Serves m 0 s t a
  serves_none q = record {
    sound = λ c d.
        let f = x.serves.sound c d in
        let e : perform m (shortest rows) c ≡ perform m 0 c = perform_any m (shortest rows) 0 c (q c) in
        record {
          answer = f.answer ∙ ap (λ (o : Outcome). o.answer) e;
          left = subst (λ (o : Outcome). Means t o.left) e f.left;
          tails = f.tails;
          cells = λ z. f.cells (ap (λ (v : Verdict). cells_stay v.move c.desk) (handed_any (shortest rows) 0 (verdict m c.desk) (q c)) ∙ z);
        };
    unsound = x.serves.unsound;
  }

  by_form : (f : Form) → form_of m ≡ f → ((d : Desk) → Formed f (verdict m d)) → Contract f m s t rows rows' a
  by_form Reading e q =
      let y = serves_none (λ c. (q c.desk).0) in
      (record { sound = λ c d. rw e (y.sound c d).answer; unsound = λ n. (x.serves.unsound n).0 }, stays (λ c. (q c.desk).1), keeps (λ c. (q c.desk).0))
  by_form Listing e q = (
    record {
      answer = λ c d. rw e (x.serves.sound c d).answer;
      hands = λ c d. rw e (x.hands c d);
      unsound = λ n. ((x.serves.unsound n).0, x.unsound n);
    },
    stays (λ c. q c.desk),
  )
  by_form Acting e q = (serves_none (λ c. q c.desk), keeps (λ c. q c.desk))
  by_form Handing e q = x

  -- `door::call` keeps the contract of the call of its command
  pub call_contract : Contract (form_of m) m s t rows rows' a
  call_contract = by_form (form_of m) refl (formed m)

-- ---- `door::tell`

module _ {m : Command} {s : State} {rows rows' : Fields} {a : Answer} (x : Tells m s rows rows' a) where
  -- a reader told with row lists keeps the contract of a reader
  tell_reading : form_of m ≡ Reading → ((d : Desk) → Formed Reading (verdict m d)) → Contract Reading m s s rows rows' a
  tell_reading e q = (
    record {
      sound = λ c d.
          let told : a ≡ (perform m (shortest rows) c).answer = rw e at (x.answer c d) in
          rw e (told ∙ ap (λ (o : Outcome). o.answer) (perform_any m (shortest rows) 0 c (q c.desk).0));
      unsound = λ n. (x.unsound n).0;
    },
    refl,
    ⊎_elim (λ w. rows_stay m (shortest rows) w.cache (q w.cache.desk).0 (rw e at (x.hands w.cache w.described))) (λ n. (x.unsound n).1) (sound? s),
  )

  tell_form : (f : Form) → form_of m ≡ f → is_teller f ≡ true → ((d : Desk) → Formed f (verdict m d)) → Contract f m s s rows rows' a
  tell_form Reading e k q = tell_reading e q
  tell_form Listing e k q = (x, refl)
  tell_form Acting e k q = absurd (false≢true k)
  tell_form Handing e k q = absurd (false≢true k)

  -- `door::tell` of a reader or a listing keeps the contract of the call of its command
  pub tell_contract : is_teller (form_of m) ≡ true → Contract (form_of m) m s s rows rows' a
  tell_contract k = tell_form (form_of m) refl k (formed m)
