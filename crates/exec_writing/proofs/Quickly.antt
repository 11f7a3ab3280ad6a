-- How many sector commands an append takes, where hints are handy.
use Rattle.std.proofs.Common.{◌≡◌, ◌≤◌, ◌∷◌, ◌++◌, ◌+◌, ◌*◌, ℕ, List, [], length, Result, Ok, Err, OnOk, append-nil, ap, sym, subst, inl, inr, arith}
use Rattle.std.proofs.lemmas.Result.{on_ok_weaker}
use Rattle.alto_words.specs.Fid.{disk_descriptor}
use Rattle.disk_records.proofs.Growing.{pack-after}
use Rattle.disk_records.specs.Tapes.{Taped, pack}
use Rattle.file_pages.specs.Calls.{StaysHandy}
use Rattle.exec_session.specs.hint_cache.specs.Caches.{Cached}
use Rattle.page_seeking.specs.Seeking.{LastNamed, NamedNearEnd, Quick, QuickCache, Refused, all_listed}
use Rattle.page_seeking.specs.declared.refs.FileRef.{FileRef}
use Rattle.pack_model.specs.hints.Links.{LinksTrue}
use Rattle.pack_model.specs.operations.Step.{Operation}
use Rattle.session_model.specs.Keeping.{Kept}
use Rattle.session_model.specs.Streams.{grows}
use Rattle.exec_steps.specs.Asked.{IsSameButMark, MayGrowFile, Works, to_stamp}
use Rattle.exec_session.specs.Meant.{IsSoon, kept}
use Rattle.exec_session.specs.declared.session.Session.{Session}
use Rattle.exec_session.specs.declared.stop.Stop.{Stop}
use Rattle.exec_steps.specs.Midway.{Arrived, MayStart, Midway, Started, StepsOn}
use Rattle.exec_writing.proofs.Appending.{may_grow_still}
use Rattle.exec_writing.proofs.Handing.{handy_stays, last_stays, near_of_last, opened_others}

-- a refusal of a note before or after is one of the whole
refused_sooner : (a b c : Cached) → b.refused ≤ c.refused → Refused a b → Refused a c
refused_sooner a b c grows rose = omega (arith, grows, rose)

-- ---- the growth and the date
pub grown_quickly : (old a b d : Taped) (one two three : Kept) (at : ℕ) (done all : List Operation) (bytes fresh rest : List ℕ) (file : FileRef) (s t u : Session) (x : Unit {0}) (result : Result (Unit {0}) Stop)
    → StepsOn a b two three (grows file.fid bytes) fresh (file.fid ∷ []) (Ok x) → Midway old a one two at done all (fresh ++ rest) → LinksTrue (pack old) → Quick (pack a) file.fid s.hints.cache → LastNamed (pack a) file.fid → Works s t → Works t u
    → b.runs ≤ a.runs + (2 * length fresh + 6) → (NamedNearEnd (pack a) file.fid 0 → NamedNearEnd (pack b) file.fid (0 + length fresh)) → StaysHandy (pack a) (pack b) s.hints.cache t.hints.cache
    → ((more : ℕ) → QuickCache (pack b) file.fid t.hints.cache → NamedNearEnd (pack b) file.fid more → OnOk result (d.runs ≤ b.runs + (more + 6)))
    → OnOk result (IsSoon (3 * length fresh + 12) a d s u)
grown_quickly old a b d one two three at done all bytes fresh rest file s t u x result steps midway links quick last first next runs named handy climbs =
    let f = file.fid in
    let st = steps old one at done all rest midway in
    let there = pack-after st.midway.grown in
    let true_links : LinksTrue (pack b) = subst LinksTrue (sym there) (st.midway.links links) in
    elim (handy quick.whole quick.links f quick.handy.cached) [
      | inl cached ↦ on_ok_weaker result (λ few. inl (omega (arith, few, runs))) (climbs (0 + length fresh) (record { whole = st.midway.whole; links = true_links; cached = cached }) (named (near_of_last (pack a) f last)))
      | inr rose ↦ on_ok result (inr (refused_sooner s.hints.cache t.hints.cache u.hints.cache next.refused rose))
    ]
  where
    on_ok : {X : Type 0} (r : Result (Unit {0}) Stop) → X → OnOk r X
    on_ok (Ok y) h = h
    on_ok (Err e) h = tt

-- ---- with the mark opened before
pub opened_quickly : (a b d : Taped) (one : Kept) (at : ℕ) (bytes fresh : List ℕ) (file : FileRef) (s t u : Session) (x : Unit {0}) (result : Result (Unit {0}) Stop) → MayGrowFile (pack a) file bytes fresh → MayStart (pack a) one (kept s) at fresh → Started a b one (kept t) at fresh (Ok x)
    → Quick (pack a) file.fid s.hints.cache → LastNamed (pack a) file.fid → IsSameButMark s t → Works s t → Works t u → b.runs ≤ a.runs + 3
    → ((o : Operation) (ops : List Operation) → MayGrowFile (pack b) file bytes fresh → Midway a b one (kept t) at [] (o ∷ ops) (fresh ++ []) → LinksTrue (pack a) → Quick (pack b) file.fid t.hints.cache → LastNamed (pack b) file.fid → OnOk result (IsSoon (3 * length fresh + 12) b d t u))
    → OnOk result (IsSoon (3 * length fresh + 15) a d s u)
opened_quickly a b d one at bytes fresh file s t u x result may start started quick last same first next runs go =
    let f = file.fid in
    let o = to_stamp f 0 in
    let m : Midway a b one (kept t) at [] (o ∷ []) (fresh ++ []) = subst (Midway a b one (kept t) at [] (o ∷ [])) (sym (append-nil fresh)) (started.midway o []) in
    let arrived : Arrived (pack a) (pack b) (kept t) [] (fresh ++ []) = record { whole = m.whole; tidy = m.tidy; reads = m.reads; fits = m.fits; found = started.found; free = m.free } in
    let others = opened_others a b one (kept t) at (o ∷ []) (fresh ++ []) quick.whole m in
    let other = may.found.ordinary.no_descriptor in
    let cache : t.hints.cache ≡ s.hints.cache = ap (λ (v : Session). v.hints.cache) same in
    let there : Quick (pack b) f t.hints.cache =
    subst (Quick (pack b) f) (sym cache) (record { whole = m.whole; links = subst LinksTrue (sym (pack-after m.grown)) (m.links quick.links); handy = handy_stays disk_descriptor f (pack a) (pack b) others other (all_listed s.hints.cache) quick.handy })
    in
    on_ok_weaker result (λ soon. further soon) (go o [] (may_grow_still (pack a) (pack b) (kept t) file bytes fresh may arrived) m quick.links there (last_stays disk_descriptor f (pack a) (pack b) others other last))
  where
    further : IsSoon (3 * length fresh + 12) b d t u → IsSoon (3 * length fresh + 15) a d s u
    further (inl few) = inl (omega (arith, few, runs))
    further (inr rose) = inr (let grows = first.refused in omega (arith, rose, grows))
