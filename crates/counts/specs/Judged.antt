-- The machine judges what a plan leaves as `refusal_by` does.
use Rattle.std.specs.Prelude.{◌≡◌, Bool, true, false, ℕ, ◌+◌, ◌<◌, ◌≤◌, length, ltb, eqb}
use Rattle.std.proofs.Math.Path.{refl}
use Rattle.std.proofs.Common.{arith, ltb-false}
use borrow.Author.Tests.{lt-ltb, le-ltb}
use Rattle.image.specs.Records.{if?}
use Rattle.machine.specs.Machine.{M, frames_cost, used, result_cost}
use Rattle.machine.specs.Opcodes.{Action}
use Rattle.machine.specs.Calls.{Sizes, handlers_left, does, stops, judge}
use Rattle.plan.specs.Rest.{counts_of}
use Rattle.plan.specs.declared.Counts.{Counts}
use Rattle.counts.specs.Counted.{refusal_by}

pub judged : (z : Sizes) (d : Action) (m : M) → handlers_left d ≤ 16 → judge z d m ≡ if? (eqb (refusal_by z (counts_of m)) 0) (does d m) (stops (refusal_by z (counts_of m)))
unfolding judge refusal_by
judged z d m h = rw (le-ltb 16 (handlers_left d) h) (by (ltb 256 (length m.frames)) (ltb z.live (frames_cost m.frames + result_cost m.result)) (ltb z.store (used m.store)))
  where
    code : Bool → Bool → Bool → ℕ
    code a b c = if? a 13 (if? b 14 (if? c 15 0))

    by : (a b c : Bool) → if? a (stops 13) (if? b (stops 14) (if? c (stops 15) (does d m))) ≡ if? (eqb (code a b c) 0) (does d m) (stops (code a b c))
    by true b c = refl
    by false true c = refl
    by false false true = refl
    by false false false = refl

-- ---- The tests one after the other
module _ (z : Sizes) (c : Counts) where
  pub refuses_frames : 256 < c.frames → 13 ≡ refusal_by z c
  unfolding refusal_by
  refuses_frames a = rw (lt-ltb 256 c.frames a) refl

  module _ (f : c.frames ≤ 256) where
    pub refuses_live : z.live < c.live → 14 ≡ refusal_by z c
    unfolding refusal_by
    refuses_live a = rw (le-ltb 256 c.frames f, lt-ltb z.live c.live a) refl

    module _ (l : c.live ≤ z.live) where
      pub refuses_store : z.store < c.store → 15 ≡ refusal_by z c
      unfolding refusal_by
      refuses_store a = rw (le-ltb 256 c.frames f, le-ltb z.live c.live l, lt-ltb z.store c.store a) refl

      pub refuses_none : c.store ≤ z.store → 0 ≡ refusal_by z c
      unfolding refusal_by
      refuses_none a = rw (le-ltb 256 c.frames f, le-ltb z.live c.live l, le-ltb z.store c.store a) refl

-- there is room where nothing is refused
pub granted : (z : Sizes) (c : Counts) → refusal_by z c ≡ 0 → (c.frames ≤ 256) × (c.live ≤ z.live) × (c.store ≤ z.store)
unfolding refusal_by
granted z c = by _ _ _ refl refl refl
  where
    by : (x y w : Bool) → ltb 256 c.frames ≡ x → ltb z.live c.live ≡ y → ltb z.store c.store ≡ w → ◌≡◌ {A = ℕ} (if? x 13 (if? y 14 (if? w 15 0))) 0 → (c.frames ≤ 256) × (c.live ≤ z.live) × (c.store ≤ z.store)
    by true y w a b d e = absurd (omega (arith, e))
    by false true w a b d e = absurd (omega (arith, e))
    by false false true a b d e = absurd (omega (arith, e))
    by false false false a b d e = (ltb-false _ _ a, ltb-false _ _ b, ltb-false _ _ d)
