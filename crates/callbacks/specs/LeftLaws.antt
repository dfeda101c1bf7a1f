-- The frames left of an answer, one law for each return.
use Rattle.std.specs.Prelude.{◌≡◌, refl, ◌⊎◌, List, ◌∷◌, ℕ, ◌-◌, ◌<◌, length, Result, Ok, Err}
use Rattle.std.proofs.Common.{◌∙◌, arith, inl, inr}
use Rattle.cells.specs.declared.Cell.{Cell}
use Rattle.machine.specs.Values.{Program}
use Rattle.machine.specs.Machine.{Frame, host}
use Rattle.machine.specs.Calls.{distinct}
use Rattle.memory.specs.Layout.{flat}
use Rattle.memory.proofs.Lists.{length_flat}
use Rattle.moves.specs.Frames.{live_drop}
use Rattle.plan.specs.Rest.{Same}
use Rattle.plan.proofs.RestLaws.{same_refl}
use Rattle.plan.specs.declared.Counts.{Counts}
use Rattle.actions.specs.Tables.{begins_below}
use Rattle.requests.specs.Returned.{frames_left}
use Rattle.answers.specs.Answered.{Laid, PutsDistinct, PutsHandlers}
use Rattle.refusals.specs.declared.Refusal.{Refusal}
use Rattle.refusals.specs.declared.Refusal.TheVariants.{ManyHandlers}
use Rattle.replies.specs.Replied.{return_with}
use Rattle.replies.specs.declared.CallbackReturn.{CallbackReturn}
use Rattle.replies.specs.declared.CallbackReturn.TheVariants.{Call, Perform, TailCall, TailPerform, ReturnValue, Error, Panic}
use Rattle.callbacks.specs.Replies.{Few, Many, LeavesFrames}

laid_below : {f : Frame} {below : List Frame} {base end : ℕ} {L : List Cell} {starts : List ℕ} → base ≡ length (flat below) → Laid (f ∷ below) end L starts → Laid below base L starts
laid_below {f} {below} {starts = starts} e l = record { live = live_drop l.live; begins = begins_below f below starts l.begins; ends = e ∙ length_flat below }

abbrev tail_counts : ℕ → Counts → Counts
tail_counts base c = record { frames = c.frames - 1; live = base; store = c.store }

-- an answer whose own frame is gone, and one whose frame stays as it is
abbrev Goes : Program → List Cell → CallbackReturn → Type 0
Goes P handlers r = (args : List Cell) (self : List Cell → Frame) (hs : List Cell) (below : List Frame) → frames_left P self hs below (return_with r args handlers) ≡ below

abbrev Stays : Program → List Cell → CallbackReturn → Type 0
Stays P handlers r = (args : List Cell) (self : List Cell → Frame) (hs : List Cell) (below : List Frame) → frames_left P self hs below (return_with r args handlers) ≡ self hs ∷ below

module _ (P : Program) (handlers : List Cell) (base : ℕ) (c : Counts) (work : List ℕ) (r : CallbackReturn) where
  -- an answered call: what putting in its handlers came to
  module _ {f : Cell} (e : r ≡ Call f) (put : Result ℕ Refusal) (work' : List ℕ) (p : PutsHandlers P base handlers put work work') where
    pub left_many : {x : Refusal} → put ≡ Err x → (x ≡ ManyHandlers) × Many P r handlers
    left_many {x} q =
        let m : (x ≡ ManyHandlers) × (16 < length (distinct P (length handlers) handlers)) × Same work work' = rw q at p in
        (m.0, record { function = f; is = e; many = m.1 })

    pub left_call : {end : ℕ} → put ≡ Ok end → LeavesFrames P r handlers base c (record { frames = c.frames; live = end; store = c.store }) work work'
    unfolding frames_left
    left_call {end} q =
        let m : PutsDistinct base (distinct P (length handlers) handlers) end work work' = rw q at p in
        rw e (record {
          few = m.few;
          laid = λ args n w st hs below starts e q l. (q, m.laid n w st hs below c.live starts e l);
          store = refl;
          same = m.same;
        })

  left_goes : Few P r handlers → Goes P handlers r → 0 < c.frames → LeavesFrames P r handlers base c (tail_counts base c) work work
  left_goes k g some = record {
    few = k;
    laid = λ args n w st hs below starts e q l. rw (g args (λ (new : List Cell). host n w st new) hs below) (omega (arith, q), laid_below e l);
    store = refl;
    same = same_refl work;
  }

  left_stays : Few P r handlers → Stays P handlers r → LeavesFrames P r handlers base c c work work
  left_stays k g = record {
    few = k;
    laid = λ args n w st hs below starts e q l. rw (g args (λ (new : List Cell). host n w st new) hs below) (q, l);
    store = refl;
    same = same_refl work;
  }

  pub left_gone : ((x : Cell) × (r ≡ TailCall x)) ⊎ (((x : Cell) × (r ≡ TailPerform x)) ⊎ ((x : Cell) × (r ≡ ReturnValue x))) → 0 < c.frames
      → LeavesFrames P r handlers base c (tail_counts base c) work work
  unfolding frames_left
  left_gone (inl e) = left_goes (rw e.1 tt) (rw e.1 (λ args self hs below. refl))
  left_gone (inr (inl e)) = left_goes (rw e.1 tt) (rw e.1 (λ args self hs below. refl))
  left_gone (inr (inr e)) = left_goes (rw e.1 tt) (rw e.1 (λ args self hs below. refl))

  pub left_there : ((x : Cell) × (r ≡ Perform x)) ⊎ (((x : Cell) × (r ≡ Error x)) ⊎ ((x : Cell) × (r ≡ Panic x))) → LeavesFrames P r handlers base c c work work
  unfolding frames_left
  left_there (inl e) = left_stays (rw e.1 tt) (rw e.1 (λ args self hs below. refl))
  left_there (inr (inl e)) = left_stays (rw e.1 tt) (rw e.1 (λ args self hs below. refl))
  left_there (inr (inr e)) = left_stays (rw e.1 tt) (rw e.1 (λ args self hs below. refl))
