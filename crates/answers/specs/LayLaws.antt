-- The frames go into a copy of the live stack, with the word in the top one: one law for each need, and one for the return.
use Rattle.std.specs.Prelude.{◌≡◌, List, ◌∷◌, ◌++◌, ℕ, suc, ◌+◌, ◌-◌, ◌≤◌, length, get_or, take, drop}
use Rattle.std.proofs.Common.{sym, ap, ◌∙◌, arith, length-append, take_at}
use Rattle.std.proofs.Math.Seq.{paste}
use Rattle.cells.specs.Cells.{room, cells, Writes}
use Rattle.cells.specs.CellsLaws.{length_cells}
use Rattle.cells.specs.Moves.{paste_is}
use Rattle.cells.specs.declared.Cell.{Cell}
use Rattle.machine.specs.Machine.{Frame, host, frame_cost, frames_cost}
use Rattle.memory.specs.Layout.{flat}
use Rattle.memory.specs.View.{frames_size}
use Rattle.memory.proofs.Lists.{length_flat}
use Rattle.moves.specs.Frames.{Live}
use Rattle.moves.specs.Starts.{Starting, frames_lower}
use Rattle.plan.specs.Rest.{Begins}
use Rattle.answers.specs.Answered.{Worded, Layable, Lays}

-- another frame on top: each begins where it did
pub begins_other : (f g : Frame) (below : List Frame) (starts : List ℕ) → Begins (f ∷ below) starts → Begins (g ∷ below) starts
begins_other f g below starts b i lt =
    let e : length (f ∷ below) - i ≡ suc (length below - i) = omega arith in
    b i lt ∙ ap (λ (k : ℕ). length (flat (drop k (f ∷ below)))) e ∙ sym (ap (λ (k : ℕ). length (flat (drop k (g ∷ below)))) e)

-- ---- Frames that lie in the live stack
pub live_fits_lem : {F : List Frame} (live : List ℕ) → Live F (cells live) → frames_cost F ≤ room live
live_fits_lem {F} live l = omega (arith, ap length l.is ∙ length-append (flat F) l.free, length_flat F, length_cells live)

module _ {f : Frame} {below : List Frame} {frames : ℕ} (live : List ℕ) (q : frames ≡ length (f ∷ below)) (l : Live (f ∷ below) (cells live)) where
  cells_all : frames_size frames (cells live) ≡ frames_cost (f ∷ below)
  cells_all =
      let z : length (f ∷ below) - frames ≡ 0 = omega arith in
      frames_lower frames l (omega arith) ∙ ap (λ (k : ℕ). length (flat (drop k (f ∷ below)))) z ∙ length_flat (f ∷ below)

  module _ {end : ℕ} {old starts : List ℕ} (s : Starting (cells live) frames old end starts) where
    ends : end ≡ frames_cost (f ∷ below)
    ends = s.used ∙ cells_all

    top_begins : get_or starts (frames - 1) 0 ≡ length (flat below)
    top_begins =
        let z : length (f ∷ below) - (frames - 1) ≡ 1 = omega arith in
        s.at (frames - 1) (omega arith) ∙ frames_lower (frames - 1) l (omega arith) ∙ ap (λ (k : ℕ). length (flat (drop k (f ∷ below)))) z

    begins : Begins (f ∷ below) starts
    begins i lt = s.at i (omega arith) ∙ frames_lower i l (omega arith)

    copied : {work mid : List ℕ} → Writes work (paste (cells work) 0 (cells live) end) mid → Live (f ∷ below) (cells mid)
    copied {work} u = record {
      free = drop (0 + end) (cells work);
      is = u.cells ∙ paste_is (cells work) 0 (cells live) end
          ∙ ap (λ (x : List Cell). x ++ drop (0 + end) (cells work)) (ap (take end) l.is ∙ take_at (flat (f ∷ below)) l.free end (length_flat (f ∷ below) ∙ sym ends));
    }

-- ---- A copy of them
module _ {frames : ℕ} {live work old : List ℕ} (o : Layable frames live work old) where
  -- the walk over the frames' heads stays in the live stack
  pub lay_starts : (frames_size frames (cells live) ≤ room live) × (room live ≤ 65536) × (frames ≤ length old)
  lay_starts = (omega (arith, cells_all live o.count o.lies, live_fits_lem live o.lies), omega (arith, o.small), o.table)

  module _ {end : ℕ} {starts : List ℕ} (s : Starting (cells live) frames old end starts) where
    pub lay_copies : (0 + end ≤ room work) × (0 + end ≤ room live)
    lay_copies =
        let a = ends live o.count o.lies s in
        (omega (arith, a, live_fits_lem live o.lies, o.small, o.room), omega (arith, a, live_fits_lem live o.lies))

    -- the head of the top frame is there
    pub lay_head : get_or starts (frames - 1) 0 + 6 ≤ 4096
    unfolding frames_cost frame_cost
    lay_head = omega (arith, top_begins live o.count o.lies s, length_flat o.below, live_fits_lem live o.lies, o.small)

    pub lay_word : {mid : List ℕ} → Writes work (paste (cells work) 0 (cells live) end) mid → get_or starts (frames - 1) 0 + 6 ≤ room mid
    lay_word u = omega (arith, lay_head, u.len, o.room)

-- the word goes into the top frame of the copy
pub lays : {frames word end : ℕ} {live work old mid work' starts : List ℕ} → Starting (cells live) frames old end starts
    → Writes work (paste (cells work) 0 (cells live) end) mid → Worded (get_or starts (frames - 1) 0) word mid work' → Lays frames word end live work old work' starts
unfolding frames_cost frame_cost
lays {word = word} {live = live} {starts = starts} s u t = record {
  laid = λ n w st hs below q l. record {
    live = (t.frame n w st hs below (record { live = copied live q l s u; begins = top_begins live q l s })).live;
    begins = begins_other (host n w st hs) (host n word st hs) below starts (begins live q l s);
    ends = ends live q l s;
  };
  same = record { rest = t.same.rest ∙ u.rest; len = t.same.len ∙ u.len };
  table = s.len;
}
