-- Frames that are put on top: a new one, or those of a continuation.
use Rattle.std.specs.Prelude.{◌≡◌, refl, get_or, set, drop}
use Rattle.std.proofs.Common.{sym, subst, ◌∙◌, arith, length-append, length-drop, length-set, drop_at}
use Rattle.std.proofs.Math.Path.{ap}
use mathlib.Core.List.{List, [], ◌∷◌, ◌++◌, reverse, append-nil, append_assoc}
use Prim.Native.Nat.{ℕ, suc, ◌+◌, ◌-◌, ◌<◌, ◌≤◌}
use Rattle.std.proofs.Math.ListN.{length, length-reverse, length-replicate}
use Rattle.std.proofs.lemmas.List.{get_or_at}
use Rattle.cells.specs.Cells.{null, room, cells}
use Rattle.cells.specs.CellsLaws.{length_cells}
use Rattle.cells.specs.declared.Cell.{Cell}
use Rattle.machine.specs.Values.{cell}
use Rattle.machine.specs.Machine.{Frame, Object, continuation, Result, M, frame_cost, frames_cost, used, result_cost, here, object_at, parse, put_back}
use Rattle.machine.proofs.Refusals.{frames_few}
use Rattle.machine.proofs.RequestRefusals.{put_back_length}
use Rattle.memory.specs.Layout.{Written, written, flat, object_cells}
use Rattle.memory.specs.View.{frames_size}
use Rattle.memory.specs.Lists.{written_cost}
use Rattle.memory.proofs.Lists.{length_flat, cost_written}
use Rattle.moves.specs.Runs.{Top, Stands, Settles, opened_top, pushed_all}
use Rattle.moves.specs.Frames.{Live, Starts, new_written, stands_live}
use Rattle.moves.specs.Objects as objects
use Rattle.moves.specs.Objects.{Stored, Kept, last_of, object_there}
use Rattle.moves.specs.declared.Running.{Running}
use Rattle.plan.specs.Rest.{Appends, counts_of}
use Rattle.plan.proofs.Appended.{appends_none, appends_same}
use Rattle.plan.specs.Plans.{taken_count, listed_cells, Enough, Resumed}
use Rattle.plan.specs.Parsed.{Lists, Pushes}
use Rattle.plan.specs.declared.Counts.{Counts}
use Rattle.plan.specs.declared.Params.{Params}
use Rattle.plan.specs.declared.Start.{Start}
use Rattle.arguments.specs.Laws.{pushes_same}
use Rattle.captures.specs.Entered.{Lies}
use Rattle.actions.specs.Acted.{Roomy, Startable, StartsFrame, Resumable, Resumes, Beginnable, Begun, Begins}
use Rattle.actions.specs.Tables.{begins_new, begins_more, begun_there, live_above, frames_inside, sizes_back}
use Rattle.plan.specs.Kinds.{frame_number}
use Rattle.plan.proofs.ParsedLaws.{parsed_count, parsed_used}

-- ---- What a machine that lies there has
module _ {m : M} {c : Counts} {live store starts : List ℕ} (l : Lies m c live store starts) where
  pub count_is : c.frames ≡ length m.frames
  count_is = ap (λ (k : Counts). k.frames) l.counts

  pub cost_is : c.live ≡ frames_cost m.frames
  unfolding result_cost
  cost_is = ap (λ (k : Counts). k.live) l.counts ∙ omega (arith, ap (λ (r : Result). result_cost r) l.running)

  pub flat_is : c.live ≡ length (flat m.frames)
  flat_is = cost_is ∙ sym (length_flat m.frames)

  pub used_is : c.store ≡ used m.store
  used_is = ap (λ (k : Counts). k.store) l.counts

  -- the store is not written, and has the same objects
  pub appends_unwritten : {s : List Object} → s ≡ m.store → Appends c.store (used s) store store
  appends_unwritten {s} q = appends_none store (omega (arith, used_is, ap (λ (x : List Object). used x) q))

-- ---- A new frame
-- the numbers of the code, none of which is too large
pub record StartFits (c : Counts) (f : Start) (p : Params) (n : ℕ) (live store starts : List ℕ) : Type 0 where
  pub table : c.frames < length starts
  pub cells_live : c.live + 6 + f.locals + taken_count p n ≤ room live
  pub cells_store : c.store + listed_cells p n ≤ room store
  pub few : c.frames < 4294967296
  pub small_live : room live < 4294967296
  pub small_store : room store < 4294967296
  pub enough : Enough p n

module _ {c : Counts} {f : Start} {p : Params} {n : ℕ} {live store starts : List ℕ} (o : Startable c f p n live store starts) where
  pub start_fits : StartFits c f p n live store starts
  unfolding frames_cost
  start_fits =
      let h = o.does.started in
      let l = o.lies in
      let args : List Cell = o.does.args in
      let s : List Object = o.machine.store in
      let A : List Cell = (parse p.variadic p.count args s).args in
      let a : length A ≡ taken_count p n = parsed_count p args s h.enough ∙ ap (taken_count p) o.does.count in
      let k : length o.after.frames ≡ suc (length o.machine.frames) = ap (λ (x : M). length x.frames) h.after in
      let g : frames_cost o.after.frames ≡ frame_cost h.frame + frames_cost o.machine.frames = ap (λ (x : M). frames_cost x.frames) h.after in
      let w : written_cost (written h.frame) ≡ 6 + f.locals + taken_count p n = ap (λ (x : Written). written_cost x) h.is ∙ omega (arith, length-replicate f.locals null, length-reverse A, a) in
      let u : used o.after.store ≡ used s + listed_cells p n =
      ap (λ (x : M). used x.store) h.after ∙ parsed_used p args s ∙ ap (λ (i : ℕ). used s + listed_cells p i) o.does.count in
      record {
        table = omega (arith, o.behind.table, k, count_is l);
        cells_live = omega (arith, o.behind.cells_live, g, w, cost_written h.frame, cost_is l);
        cells_store = omega (arith, o.behind.cells_store, u, used_is l);
        few = omega (arith, o.behind.cells_live, o.behind.small.0, g, count_is l, frames_few o.machine.frames);
        small_live = o.behind.small.0;
        small_store = o.behind.small.1;
        enough = λ q. omega (arith, h.enough q, o.does.count);
      }

-- its registers before the arguments are pushed
abbrev pub new_running : ℕ → ℕ → Running
new_running at locals = record { base = at; locals = locals; handlers = 0; stack = 0; place = 0 }

new_top : (kind : ℕ) (subject : Cell) (k : ℕ) {pre L : List Cell} (at : ℕ) → Stands (new_written kind subject k []) pre L → at ≡ length pre → Top (new_written kind subject k []) pre (new_running at k) L
new_top kind subject k at o e =
    let t = opened_top at o e in
    record { x = t.x; y = t.y; z = t.z; free = t.free; is = t.is; base = e; counts = record { locals = sym (length-replicate k null); handlers = refl; stack = refl; place = refl } }

-- the head can be written once the arguments are pushed
pub pushed_fits : {c : Counts} {f : Start} {p : Params} {n : ℕ} {args : List Cell} {live store starts a b : List ℕ} {h : Running} → StartFits c f p n live store starts → length a ≡ length live
    → Pushes p c.store args (new_running c.live f.locals) a h b → (h.base + 6 ≤ room b) × (h.place < 4294967296)
pushed_fits {h = h} o e u = (omega (arith, o.cells_live, ap (λ (k : Running). k.base) u.registers, (pushes_same u).len, e), omega (arith, ap (λ (k : Running). k.place) u.registers))

pub starts_frame : {c : Counts} {f : Start} {p : Params} {args : List Cell} {live a b live' store store' : List ℕ} {h : Running} (starts : List ℕ) → c.frames < length starts
    → Lists p c.store args store store' → Starts (new_written (frame_number f.kind) f.subject f.locals []) c.live live a → Pushes p c.store args (new_running c.live f.locals) a h b → Settles h b live'
    → StartsFrame c f p args live store starts live' store' (set starts c.frames c.live)
starts_frame {c} {f} {p} {args} {live} {a} {b} {live'} {store} {store'} starts lt v s u t = record {
  lies = λ m m' r l room.
      let F : List Frame = m.frames in
      let A : List Cell = (parse p.variadic p.count args m.store).args in
      let o = t.stands _ _ ((u.turns m.store (used_is l)).top _ _ (new_top (frame_number f.kind) f.subject f.locals c.live (s.stands (flat F) l.frames.free l.frames.is (flat_is l)) (flat_is l))) in
      let q : pushed_all A (new_written (frame_number f.kind) f.subject f.locals []) ≡ written r.frame =
      ap (λ (st : List Cell). record { kind = frame_number f.kind; subject = f.subject; place = 0; locals = (new_written (frame_number f.kind) f.subject f.locals []).locals; handlers = []; stack = st }) (append-nil (reverse A)) ∙ sym r.is in
      let k : Live (r.frame ∷ F) (cells live') = stands_live (subst (λ (w : Written). Stands w (flat F) (cells live')) q o) in
      rw r.after (record {
        counts = refl;
        running = l.running;
        frames = k;
        begins = begins_new r.frame F starts c.frames c.live (count_is l) (flat_is l) lt l.begins;
        objects = v.stored m.store l.objects (used_is l);
      });
  same_live = let w = pushes_same u in record { rest = t.rest ∙ w.rest ∙ s.rest; len = t.len ∙ w.len ∙ s.len };
  same_store = appends_same v.appends;
  appends = λ m m' r l room.
      let k : used m'.store ≡ used m.store + listed_cells p (length args) = ap (λ (x : M). used x.store) r.after ∙ parsed_used p args m.store in
      subst (λ (n : ℕ). Appends c.store n store store') (omega (arith, k, used_is l)) v.appends;
  table = length-set starts c.frames c.live;
}

-- ---- The frames of a continuation
-- its first cell has their number
head_count : {s : List Object} (h : ℕ) {K : List Frame} {S : List Cell} → Stored s S → object_at s h ≡ here (continuation K) → (get_or S h null).number ≡ length K
unfolding object_cells
head_count h o q = let t = object_there o q in ap (λ (x : Cell). x.number) (ap (λ (l : List Cell). get_or l h null) t.is ∙ get_or_at t.pre _ _ null h t.at)

-- behind it lie its frames
frames_stored : {s : List Object} (h : ℕ) {K : List Frame} {S : List Cell} → Stored s S → object_at s h ≡ here (continuation K) → Live K (drop (h + 1) S)
unfolding object_cells
frames_stored h {K} {S} o q =
    let t = object_there o q in
    let a : List Cell = t.pre ++ (cell 130 (length K) (frames_cost K) ∷ []) in
    let i : S ≡ a ++ (flat K ++ t.post) = t.is ∙ sym (append_assoc t.pre (cell 130 (length K) (frames_cost K) ∷ []) (flat K ++ t.post)) in
    record { free = t.post; is = ap (drop (h + 1)) i ∙ drop_at a (flat K ++ t.post) (h + 1) (length-append t.pre (cell 130 (length K) (frames_cost K) ∷ []) ∙ omega (arith, t.at)) }

handle_there : {s : List Object} (h : ℕ) {K : List Frame} {S : List Cell} → Stored s S → object_at s h ≡ here (continuation K) → h < length S
unfolding object_cells
handle_there h {K} o q =
    let t = object_there o q in
    omega (arith, ap length t.is ∙ length-append t.pre (object_cells (continuation K) ++ t.post), t.at)

kept_frames : {v : Cell} {at h : ℕ} {live store : List ℕ} (F : List Frame) (s : List Object) (K : List Frame) → Live F (cells live) → at ≡ length (flat F) → Stored s (cells store) → object_at s h ≡ here (continuation K)
    → frames_cost (put_back v K ++ F) ≤ room live → 0 < length K → Kept v at h live store
kept_frames F s [] o e d q le lt = absurd (omega arith)
kept_frames F s (f ∷ K) o e d q le lt = record { below = F; objects = s; top = f; under = K; held = o; used = e; stored = d; there = q; fits = le }

back_frames : {v : Cell} {at h n : ℕ} {live store new : List ℕ} → objects.Resumed v at h live store n new → (F : List Frame) (s : List Object) (K : List Frame) → Live F (cells live) → at ≡ length (flat F)
    → Stored s (cells store) → object_at s h ≡ here (continuation K) → frames_cost (put_back v K ++ F) ≤ room live → 0 < length K → Live (put_back v K ++ F) (cells new)
back_frames r F s [] o e d q le lt = absurd (omega arith)
back_frames r F s (f ∷ K) o e d q le lt = r.back (record { below = F; objects = s; top = f; under = K; held = o; used = e; stored = d; there = q; fits = le })

-- a machine that is resumed
module _ {h : ℕ} {v : Cell} {m m' : M} {c : Counts} {live store starts : List ℕ} (r : Resumed h v m m') (l : Lies m c live store starts) (room_there : Roomy (counts_of m') live store starts) where
  back_fits : frames_cost (put_back v r.frames ++ m.frames) ≤ room live
  back_fits = omega (arith, room_there.cells_live, ap (λ (x : M). frames_cost x.frames) r.after)

  count_after : length m'.frames ≡ length r.frames + c.frames
  count_after =
      ap (λ (x : M). length x.frames) r.after
      ∙ length-append (put_back v r.frames) m.frames ∙ omega (arith, put_back_length v r.frames, count_is l)

  module _ (some : 0 < length r.frames) {n : ℕ} {live' : List ℕ} (b : objects.Resumed v c.live h live store n live') where
    back_live : Live (put_back v r.frames ++ m.frames) (cells live')
    back_live = back_frames b m.frames m.store r.frames l.frames (flat_is l) l.objects r.there back_fits some

    resumed_lies : {starts' : List ℕ} → Begun c.frames c.live (length r.frames) (drop (h + 1) (cells store)) starts starts' → Lies m' (counts_of m') live' store starts'
    resumed_lies {starts'} g =
        let K : List Frame = put_back v r.frames in
        let there : Live K (drop c.live (cells live')) = live_above K m.frames back_live (flat_is l) in
        let d : Begun c.frames c.live (length K) (drop c.live (cells live')) starts starts' =
        rw (put_back_length v r.frames) (begun_there (sizes_back v r.frames (frames_stored h l.objects r.there) there) g) in
        rw r.after (record {
          counts = refl;
          running = l.running;
          frames = back_live;
          begins = begins_more K m.frames back_live (flat_is l) (count_is l) d l.begins;
          objects = l.objects;
        })

module _ {c : Counts} {h : ℕ} {v : Cell} {live store starts : List ℕ} (o : Resumable c h v live store starts) where
  abbrev does : Resumed h v o.machine o.after
  does = o.does.resumed

  pub back_kept : Kept v c.live h live store
  back_kept = kept_frames o.machine.frames o.machine.store does.frames o.lies.frames (flat_is o.lies) o.lies.objects does.there (back_fits does o.lies o.behind) o.does.some

  pub handle_fits : h < room store
  handle_fits = omega (arith, length_cells store, handle_there h o.lies.objects does.there)

  module _ {count : ℕ} (e : count ≡ (get_or (cells store) h null).number) where
    pub begin_fits : Beginnable c.frames (h + 1) c.live count (cells store) starts
    begin_fits =
        let l = o.lies in
        let K : List Frame = does.frames in
        let k : count ≡ length K = e ∙ head_count h l.objects does.there in
        let x : List Cell = drop (h + 1) (cells store) in
        let inside : frames_size count x ≤ length x = rw k (frames_inside (frames_stored h l.objects does.there)) in
        record {
          table = omega (arith, o.behind.table, count_after does l o.behind);
          cells = omega (arith, inside, length-drop (h + 1) (cells store), handle_there h l.objects does.there);
          small_store = omega (arith, length_cells store, o.behind.small.1);
          small = omega (arith, objects.back_fits back_kept e refl refl, o.behind.small.0);
        }

    module _ {last : ℕ} {starts' : List ℕ} (g : Begins c.frames (h + 1) c.live count (cells store) starts last starts') where
      pub last_there : last ≡ last_of h (cells store)
      last_there = g.reached ∙ ap (λ (n : ℕ). h + 1 + frames_size (n - 1) (drop (h + 1) (cells store))) e

      pub resumes : {n : ℕ} {live' : List ℕ} → objects.Resumed v c.live h live store n live' → Resumes c h v live store starts live' starts'
      resumes {live' = live'} b = record {
        lies = λ m m' r l room_there.
            let k : count ≡ length r.frames = e ∙ head_count h l.objects r.there in
            let some : 0 < length r.frames = omega (arith, o.does.some, e ∙ head_count h o.lies.objects does.there) in
            resumed_lies r l room_there some b (subst (λ (i : ℕ). Begun c.frames c.live i (drop (h + 1) (cells store)) starts starts') k g.begun);
        same_live = record { rest = b.rest; len = b.len };
        same_store = record { rest = refl; len = refl };
        appends = λ m m' r l room_there. appends_unwritten l (ap (λ (x : M). x.store) r.after);
        table = g.begun.len;
      }
