-- A call made with room for as many rows as there are records, and its rows saved, is the call with records.
-- Assumes nothing.
use Prim.Native.Nat.{ℕ, suc, ◌≤◌, ◌<◌, min}
use mathlib.Core.Bool.{Bool, true, false, true≢false}
use mathlib.Core.List.{List, [], ◌∷◌, ◌++◌, append_assoc, append-nil}
use mathlib.Core.Logic.{◌⊎◌, ⊎_elim}
use mathlib.Core.Path.{◌≡◌, refl, sym, ap, ◌∙◌, subst}
use native.Mathlib.Omega.{arith}
use borrow.Author.Tests.{le-leb}
use lib.Dec.{leb-zero}
use lib.ListN.{length, get_or, drop, set, length-append}
use lib.Seq.{drop-cons, set_at}
use Rattle.head.specs.declared.Row.{Row}
use Rattle.head.specs.declared.Answer.{Answer}
use Rattle.head.specs.declared.Answer.TheVariants.{No}
use Rattle.head.specs.declared.Refusal.{Refusal}
use Rattle.head.specs.declared.Refusal.TheVariants.{Unsound}
use Rattle.head.specs.declared.Command.{Command}
use Rattle.head.specs.Answers.{row_count}
use Rattle.head.specs.Fields.{Fields}
use Rattle.head.specs.Forms.{form_of}
use Rattle.model.specs.Perform.{Cache, perform}
use Rattle.model.proofs.Cases.{split}
use Rattle.model.proofs.Handing.{rows_counted, rows_fit}
use Rattle.store.specs.State.{blank}
use Rattle.rows.specs.Written.{Written}
use Rattle.rows.proofs.Callers.{written_row}
use Rattle.plan.specs.States.{State, Means, Sound}
use Rattle.door.specs.Served.{is_teller, shortest}
use Rattle.records.specs.Saving.{holds, copied, Saved}
use Rattle.records.specs.Into.{lent, told_answer, told_rows, laid, Recorded, CallsWithin, TellsWithin, CallsInto, TellsInto}

-- ---- what is copied of written rows

module _ {f g : Fields} (rs : List Row) where
  copied_more : (done : List Row) (e : Row) (rest : List Row) → Written (done ++ e ∷ rest) f g → length done < length rs
      → copied (length done) g rs ≡ laid done rs → copied (length (done ++ (e ∷ []))) g rs ≡ laid (done ++ (e ∷ [])) rs
  unfolding copied
  copied_more done e rest w l h =
      let k = length done in
      let z : length (done ++ (e ∷ [])) ≡ suc k = omega (arith, length-append done (e ∷ [])) in
      ap (λ (j : ℕ). copied j g rs) z
      ∙ ap (λ (x : Row). set (copied k g rs) k x) (written_row done e rest w)
      ∙ ap (λ (t : List Row). set t k e) (h ∙ ap (λ (t : List Row). done ++ t) (drop-cons rs k blank l))
      ∙ set_at done (get_or rs k blank) (drop (suc k) rs) e k refl
      ∙ sym (ap (λ (j : ℕ). (done ++ (e ∷ [])) ++ drop j rs) z ∙ append_assoc done (e ∷ []) (drop (suc k) rs))

  copied_rest : (done rest : List Row) → Written (done ++ rest) f g → length (done ++ rest) ≤ length rs
      → copied (length done) g rs ≡ laid done rs → copied (length (done ++ rest)) g rs ≡ laid (done ++ rest) rs
  copied_rest done [] w l h = rw (append-nil done) h
  copied_rest done (e ∷ rest) w l h =
      let same : done ++ e ∷ rest ≡ (done ++ (e ∷ [])) ++ rest = sym (append_assoc done (e ∷ []) rest) in
      let more = copied_more done e rest w (omega (arith, length-append done (e ∷ rest), l)) h in
      rw same (copied_rest (done ++ (e ∷ [])) rest (rw same at w) (rw same at l) more)

  pub copied_all : (rows : List Row) → Written rows f g → length rows ≤ length rs → copied (length rows) g rs ≡ laid rows rs
  unfolding copied
  copied_all rows w l = copied_rest [] rows w l refl

-- ---- the shortest list

min_left : (a b : ℕ) → min a b ≤ a
min_left a b = omega arith

min_right : (a b : ℕ) → min a b ≤ b
min_right a b = omega arith

module _ {f g : Fields} {rows : List Row} (w : Written rows f g) {n : ℕ} (rs : List Row) (l : n ≤ length rs) (k : n ≤ shortest f) where
  pub all_hold : holds n g rs ≡ true
  all_hold =
      let a = min_left (length f.codes) (min (length f.stamps) (min (length f.values) (length f.weights))) in
      let a' = min_right (length f.codes) (min (length f.stamps) (min (length f.values) (length f.weights))) in
      let b = min_left (length f.stamps) (min (length f.values) (length f.weights)) in
      let b' = min_right (length f.stamps) (min (length f.values) (length f.weights)) in
      let c = min_left (length f.values) (length f.weights) in
      let c' = min_right (length f.values) (length f.weights) in
      let p : n ≤ length g.codes = omega (arith, w.codes.size) in
      let q : n ≤ length g.stamps = omega (arith, w.stamps.size) in
      let r : n ≤ length g.values = omega (arith, w.values.size) in
      let s : n ≤ length g.weights = omega (arith, w.weights.size) in
      rw (le-leb _ _ l, le-leb _ _ p, le-leb _ _ q, le-leb _ _ r, le-leb _ _ s) refl

-- ---- a call, then `save`

-- what `save` says of as many rows as an answer counts, on what is seen of the row lists
pub saved_of : {n k : ℕ} {f g : Fields} {before after : List Row} {r : Bool} → f ≡ g → n ≡ k → Saved n f before after r → Saved k g before after r
saved_of {n} {f = f} {g} {before} {after} {r} e q p =
    subst (λ (x : ℕ). Saved x g before after r) q (subst (λ (x : Fields). Saved n x before after r) e p)

-- a Bool that is true of a sound state and true of any other is true
settle : {s : State} (b : Bool) → ((c : Cache) → Means s c → b ≡ true) → ((Sound s → ⊥) → b ≡ true) → b ≡ true
settle true f g = refl
settle false f g = g (λ w. true≢false (sym (f w.cache w.described)))

-- saved where nothing is counted, nothing changed
nothing_saved : {n : ℕ} {f : Fields} {before after : List Row} {r : Bool} → n ≡ 0 → Saved n f before after r → after ≡ before
unfolding copied
nothing_saved {n} {f} {before} {after} z s =
    s.records ∙ split (holds n f before) (λ t. rw (t, z) refl) (λ t. rw t refl)

-- what `tell` hands out is counted, and is no more than is lent
told_counted : (m : Command) (n : ℕ) (c : Cache) → 1 ≤ c.desk.capacity → row_count (told_answer m n c) ≡ length (told_rows m n c)
told_counted m n c h = split (is_teller (form_of m)) (λ k. rw k (rows_counted m n c h)) (λ k. rw k refl)

told_fit : (m : Command) (n : ℕ) (c : Cache) → length (told_rows m n c) ≤ n
told_fit m n c = split (is_teller (form_of m)) (λ k. rw k (rows_fit m n c)) (λ k. rw k (omega arith))

module _ (m : Command) (s : State) (rows rows' : Fields) (a : Answer) (before after : List Row) (r : Bool) (saved : Saved (row_count a) rows' before after r) where
  abbrev k : ℕ
  k = lent (length before) rows

  -- rows that the answer counts, that are lent and written
  module _ (handed : List Row) (many : row_count a ≡ length handed) (few : length handed ≤ k) (written : Written handed rows rows') where
    fit : length handed ≤ length before
    fit = omega (arith, few, min_left (length before) (shortest rows))

    all : holds (row_count a) rows' before ≡ true
    all =
        let z = min_right (length before) (shortest rows) in
        all_hold written before (omega (arith, many, fit)) (omega (arith, many, few, z))

    is_saved : r ≡ true
    is_saved = saved.answer ∙ all

    records_are : after ≡ laid handed before
    records_are =
        let given : after ≡ copied (row_count a) rows' before = saved.records ∙ rw all refl in
        given ∙ ap (λ (n : ℕ). copied n rows' before) many ∙ copied_all before handed written fit

  refused_saved : (q : Refusal) → a ≡ No q → after ≡ before
  refused_saved q e = nothing_saved (ap row_count e) saved

  -- nothing is handed out where no cache is described, so that is saved too
  none_saved : a ≡ No Unsound → r ≡ true
  none_saved e = saved.answer ∙ rw (ap row_count e) (rw (leb-zero (length before), leb-zero (length rows'.codes), leb-zero (length rows'.stamps), leb-zero (length rows'.values), leb-zero (length rows'.weights)) refl)

  module _ {t : State} (p : CallsWithin m (length before) s t rows rows' a) where
    call_counts : (c : Cache) → Means s c → row_count a ≡ length (perform m k c).rows
    call_counts c h = ap row_count (p.serves.sound c h).answer ∙ rows_counted m k c h.lawful.capacity.0

    pub calls_into : CallsInto m s t rows rows' before after a
    calls_into = record {
      calls = p;
      records = record {
        hands = λ c h. records_are (perform m k c).rows (call_counts c h) (rows_fit m k c) (p.hands c h);
        refused = refused_saved;
      };
    }

    pub calls_saved : r ≡ true
    calls_saved = settle r (λ c h. is_saved (perform m k c).rows (call_counts c h) (rows_fit m k c) (p.hands c h)) (λ n. none_saved (p.serves.unsound n).0)

  module _ (p : TellsWithin m (length before) s rows rows' a) where
    tell_counts : (c : Cache) → Means s c → row_count a ≡ length (told_rows m k c)
    tell_counts c h = ap row_count (p.answer c h) ∙ told_counted m k c h.lawful.capacity.0

    pub tells_into : TellsInto m s rows rows' before after a
    tells_into = record {
      tells = p;
      records = record {
        hands = λ c h. records_are (told_rows m k c) (tell_counts c h) (told_fit m k c) (p.hands c h);
        refused = refused_saved;
      };
    }

    pub tells_saved : r ≡ true
    tells_saved = settle r (λ c h. is_saved (told_rows m k c) (tell_counts c h) (told_fit m k c) (p.hands c h)) (λ n. none_saved (p.unsound n).0)

-- ---- one outcome

module _ {handed : Cache → List Row} {s : State} {before after after' : List Row} {a b : Answer} (known : Sound s ⊎ (Sound s → ⊥)) where
  one_recorded : ((Sound s → ⊥) → (a ≡ No Unsound) × (b ≡ No Unsound)) → Recorded handed s before after a → Recorded handed s before after' b → after ≡ after'
  one_recorded refuse x y =
      ⊎_elim
      (λ w. x.hands w.cache w.described ∙ sym (y.hands w.cache w.described))
      (λ n. x.refused Unsound (refuse n).0 ∙ sym (y.refused Unsound (refuse n).1))
      known

module _ {m : Command} {s : State} {rows : Fields} {before after after' : List Row} {a b : Answer} (known : Sound s ⊎ (Sound s → ⊥)) where
  -- two outcomes of one call have the same records
  pub one_into : {t u : State} {out out' : Fields} → CallsInto m s t rows out before after a → CallsInto m s u rows out' before after' b → after ≡ after'
  one_into x y = one_recorded known (λ n. ((x.calls.serves.unsound n).0, (y.calls.serves.unsound n).0)) x.records y.records

  pub one_told_into : {out out' : Fields} → TellsInto m s rows out before after a → TellsInto m s rows out' before after' b → after ≡ after'
  one_told_into x y = one_recorded known (λ n. ((x.tells.unsound n).0, (y.tells.unsound n).0)) x.records y.records
