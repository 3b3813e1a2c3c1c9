-- How a server goes on with one event more.
use Rattle.std.proofs.Common.{◌≡◌, ◌≤◌, ℕ, ◌+◌, ◌-◌, ◌*◌, ◌^◌, false, Option, Some, None, List, [], ◌∷◌, ◌++◌, length, map, refl, ap, ap₂, subst, sym, ◌∙◌, append_assoc, arith, inl, inr}
use Rattle.std.proofs.lemmas.List.{map-append, append-nil, length-set, map-set}
use Rattle.std.specs.Prelude.{◌==◌, slice_get, slice_set, IfSome, IsSome, IsTrue}
use Rattle.std.proofs.lemmas.Option.{slice_get-map}
use Rattle.std.specs.Option.{option_map, option_to_list}
use Rattle.diag_can.specs.Event.{Event, Physical, Functional, Ticks}
use Rattle.diag_tp.specs.declared.sent.Sent.{Sent}
use Rattle.diag_tp.specs.Moments.{is_tick, last_time}
use Rattle.diag_tp.specs.Gives.{gives}
use Rattle.diag_setup.specs.Setup.{link_of}
use Rattle.diag_setup.specs.declared.raw.RawSetup.{RawSetup}
use Rattle.diag_ecu.specs.State.{State, opening}
use Rattle.diag_desk.specs.declared.entry.Entry.{Entry}
use Rattle.diag_desk.specs.Entries.{asked_by}
use Rattle.diag_desk.specs.Legal.{Legal, after, after_step, reply_to}
use Rattle.diag_desk.specs.Timed.{Timed, entries_of, own_timed, timed, timed_entry}
use Rattle.diag_desk.proofs.Runs.{legal_more, after_more}
use Rattle.diag_desk.proofs.TimedLemmas.{own_timed-append, timed-append}
use Rattle.diag_port.specs.declared.port.Port.{Port}
use Rattle.diag_port.specs.Late.{pace_of}
use Rattle.diag_port.specs.Releasing.{drawn}
use Rattle.diag_port.specs.Port.{PortState, port_of, time_after}
use Rattle.diag_port.specs.Standing.{PortStands, Went}
use Rattle.diag_world.specs.Server.{EachStretch, PortWent, ServerState, ServerView, server_of, sent_by, ServedFrom, ServesFrom, Settled, WasSet}
use Rattle.diag_world.specs.Weaving.{items_of, all_by}
use Rattle.diag_world.proofs.Channels.{asked_gives}
use Rattle.diag_world.proofs.Weaves.{steps_of_after-append}
use Rattle.diag_world.proofs.Worlds.{set_cases, own_mine, own_none, items_mine, items_other, other_place}

pub legal_asked : (s now : State) (K : List Entry) (asked : Option Entry) → Legal s K → now ≡ after s K
    → IfSome asked (λ k. k.reply ≡ reply_to now k.who k.step) → Legal s (K ++ option_to_list asked)
legal_asked s now K None h is same = subst (Legal s) (sym (append-nil K)) h
legal_asked s now K (Some k) h is same = legal_more s K k h (same ∙ ap (λ x. reply_to x k.who k.step) is)

pub after_asked : (s now : State) (K : List Entry) (asked : Option Entry) → now ≡ after s K
    → after now (option_to_list asked) ≡ after s (K ++ option_to_list asked)
after_asked s now K None is = is ∙ ap (after s) (sym (append-nil K))
after_asked s now K (Some k) is = ap (λ x. after x (k ∷ [])) is ∙ sym (after_more s K k)

-- an event more of a tester, with the entries that it gives
module _ (opened : State) (T : List Timed) (setup : RawSetup) (M : List (ℕ × Event)) (K more : List Entry) (who : ℕ) (e : Event)
    (given : asked_by more ≡ all_by who (option_to_list (gives (link_of setup who) (items_of M who) e))) where
  -- with their delays
  abbrev pub timed_more : List Timed
  timed_more = timed (after opened K) more

  own_both : (t : ℕ) → own_timed (T ++ timed opened (K ++ more)) t ≡ own_timed (T ++ timed opened K) t ++ own_timed timed_more t
  own_both t = ap (λ w. own_timed (T ++ w) t) (timed-append opened K more)
      ∙ (ap (λ w. own_timed w t) (sym (append_assoc T (timed opened K) timed_more)) ∙ own_timed-append (T ++ timed opened K) timed_more t)

  pub own_more : own_timed (T ++ timed opened (K ++ more)) who ≡ own_timed (T ++ timed opened K) who ++ timed_more
  own_more = own_both who ∙ ap (λ w. own_timed (T ++ timed opened K) who ++ w) (own_mine (after opened K) more who _ given)

  pub own_other : (t : ℕ) → (who == t) ≡ false → own_timed (T ++ timed opened (K ++ more)) t ≡ own_timed (T ++ timed opened K) t
  own_other t away = own_both t ∙ (ap (λ w. own_timed (T ++ timed opened K) t ++ w) (own_none (after opened K) more who t _ away given) ∙ append-nil _)

  -- no other tester is sent anything
  pub sent_other : (t : ℕ) → (who == t) ≡ false
      → sent_by setup (M ++ (who, e) ∷ []) (T ++ timed opened (K ++ more)) t ≡ sent_by setup M (T ++ timed opened K) t
  sent_other t away = ap₂ (λ E T. drawn (link_of setup t) (pace_of setup) E T) (items_other M who t e away) (own_other t away)

  -- a server goes on as the port of the tester does
  pub serves_more : (old new : ServerState) (i : ℕ) (port : PortState) → ServesFrom opened T setup old M K → who ≡ i + 1
      → new.ports ≡ slice_set old.ports i port → Legal opened (K ++ more) → new.ecu ≡ after opened (K ++ more)
      → PortStands (link_of setup who) (pace_of setup) port (items_of M who ++ e ∷ []) (own_timed (T ++ timed opened K) who ++ timed_more)
      → ServesFrom opened T setup new (M ++ (who, e) ∷ []) (K ++ more)
  serves_more old new i port h is ports legal ecu stands = record {
    legal = legal;
    ecu = ecu;
    testers = ap length ports ∙ (length-set old.ports i port ∙ h.testers);
    run = ap asked_by (sym (append_assoc (entries_of T) K more))
        ∙ (map-append (λ (k : Entry). (k.who, k.step)) (entries_of T ++ K) more
        ∙ (ap₂ ◌++◌ h.run (given ∙ sym (append-nil _)) ∙ sym (steps_of_after-append (link_of setup) [] M ((who, e) ∷ []))));
    ports = λ j p at. elim (set_cases old.ports i j port p (subst (λ ls. slice_get ls j ≡ Some p) ports at)) [
      | inl q ↦ (let place : j + 1 ≡ who = omega (arith, is, q.0) in rw (place, q.1, items_mine M who e, own_more) stands)
      | inr q ↦ (let away = other_place i j who is q.0 in rw (items_other M who (j + 1) e away, own_other (j + 1) away) (h.ports j p q.1))
    ];
  }

-- the delay of the entry that an event gives
timed_asked : (s now : State) (asked : Option Entry) → now ≡ s → option_to_list (option_map (timed_entry now) asked) ≡ timed s (option_to_list asked)
timed_asked s now None is = refl
timed_asked s now (Some k) is = ap (λ x. timed_entry x k ∷ []) is

-- the same where the ECU gives the reply
pub server_takes : (opened : State) (T : List Timed) (setup : RawSetup) (old new : ServerState) (M : List (ℕ × Event)) (K : List Entry) (who : ℕ) (e : Event)
    (asked : Option Entry) (i : ℕ) (port' : PortState) (more : List Sent)
    → ServesFrom opened T setup old M K → who ≡ i + 1
    → new.ports ≡ slice_set old.ports i port' → new.ecu ≡ after old.ecu (option_to_list asked)
    → option_map (λ k. k.step) asked ≡ gives (link_of setup who) (items_of M who) e
    → IfSome asked (λ k. k.who ≡ who) → IfSome asked (λ k. k.reply ≡ reply_to old.ecu k.who k.step)
    → Went (link_of setup who) (pace_of setup) port' (items_of M who) (own_timed (T ++ timed opened K) who) e
    (option_to_list (option_map (timed_entry old.ecu) asked)) more
    → ServedFrom opened T setup new M K who e asked more
server_takes opened T setup old new M K who e asked i port' more h is ports ecu step by reply went =
    let given = asked_gives who (gives (link_of setup who) (items_of M who) e) asked step by in
    let took = subst (λ w. Went (link_of setup who) (pace_of setup) port' (items_of M who) (own_timed (T ++ timed opened K) who) e w more)
    (timed_asked (after opened K) old.ecu asked h.ecu) went in
    record {
      serves = serves_more opened T setup M K (option_to_list asked) who e given old new i port' h is ports
          (legal_asked opened old.ecu K asked h.legal h.ecu reply)
          (ecu ∙ after_asked opened old.ecu K asked h.ecu) took.0;
      grown = ap₂ (λ E T. drawn (link_of setup who) (pace_of setup) E T) (items_mine M who e)
          (own_more opened T setup M K (option_to_list asked) who e given) ∙ took.1;
      others = sent_other opened T setup M K (option_to_list asked) who e given;
    }

-- the tester's port, of a server
pub port_at : (opened : State) (T : List Timed) (setup : RawSetup) (server : ServerView) (M : List (ℕ × Event)) (K : List Entry) (who i : ℕ) (port : Port)
    → ServesFrom opened T setup (server_of server) M K → who ≡ i + 1 → slice_get server.ports i ≡ Some port
    → PortStands (link_of setup who) (pace_of setup) (port_of port) (items_of M who) (own_timed (T ++ timed opened K) who)
port_at opened T setup server M K who i port h is found =
    subst (λ t. PortStands (link_of setup t) (pace_of setup) (port_of port) (items_of M t) (own_timed (T ++ timed opened K) t)) (sym is)
    (h.ports i (port_of port) (slice_get-map port_of server.ports i ∙ ap (option_map port_of) found))

-- a clock goes on with an entry alone
pub paced : (e : Event) (asked : Option Entry) (now next : ℕ) → next ≡ time_after now e → next ≤ now + 60000 → (IsTrue (is_tick e) → IsSome asked)
    → next ≤ now + 60000 * length (option_to_list asked)
paced e (Some k) now next time most ticks = omega (arith, most)
paced (Physical bytes) None now next time most ticks = omega (arith, time)
paced (Functional bytes) None now next time most ticks = omega (arith, time)
paced (Ticks n) None now next time most ticks = absurd (clash None refl (ticks refl))
  where
    clash : (o : Option Entry) → o ≡ None → IsSome o → ⊥
    clash None is h = cc
    clash (Some k) is h = cc

-- an entry with its delay asks what it asks without
some_asked : (s : State) (asked : Option Entry) → IsSome (option_map (timed_entry s) asked) → IsSome asked
some_asked s None h = h
some_asked s (Some k) h = refl

same_step : (s : State) (asked : Option Entry) → option_map (λ k. k.step) asked ≡ option_map (λ x. x.entry.step) (option_map (timed_entry s) asked)
same_step s None = refl
same_step s (Some k) = refl

pub same_who : (s : State) (who : ℕ) (asked : Option Entry) → IfSome (option_map (timed_entry s) asked) (λ x. x.entry.who ≡ who)
    → IfSome asked (λ k. k.who ≡ who)
same_who s who None h = tt
same_who s who (Some k) h = h

-- a server settles an event as the port of the tester took it
pub server_went : (old new : ServerView) (who i : ℕ) (e : Event) (asked : Option Entry) (port port' : Port) (more : List Sent)
    → who ≡ i + 1 → slice_get old.ports i ≡ Some port → new.ports ≡ slice_set old.ports i port'
    → PortWent old.ecu new.ecu (port_of port) (port_of port') who e asked more
    → Settled (server_of old) (server_of new) who e asked more
server_went old new who i e asked port port' more is found ports went =
    let took = went.took in
    let place : i ≡ who - 1 = omega (arith, is) in
    let written : (server_of new).ports ≡ slice_set (server_of old).ports i (port_of port') = ap (map port_of) ports ∙ map-set port_of old.ports i port' in
    let stretched : EachStretch (server_of old) (λ opened T setup M K. ServedFrom opened T setup (server_of new) M K who e asked more) =
    λ opened T setup M K h.
    let stands = port_at opened T setup old M K who i port h is found in
    let E = items_of M who in
    let early : last_time E ≤ 2 ^ 63 = omega (arith, stands.stands.stands.now, went.early) in
    server_takes opened T setup (server_of old) (server_of new) M K who e asked i (port_of port') more h is written went.goes_on
    (same_step old.ecu asked ∙ took.step (link_of setup who) E _ _ stands.stands.stands) (same_who old.ecu who asked took.by) went.answer
    (took.stands (link_of setup who) (pace_of setup) E (own_timed (T ++ timed opened K) who) stands early) in
    record {
      answer = went.answer;
      ecu = went.goes_on;
      moved = record {
        before = port_of port;
        after = port_of port';
        found = subst (λ k. slice_get (server_of old).ports k ≡ Some (port_of port)) place (slice_get-map port_of old.ports i ∙ ap (option_map port_of) found);
        set = subst (λ k. (server_of new).ports ≡ slice_set (server_of old).ports k (port_of port')) place written;
        time = took.time;
        pace = paced e asked port.link.state.now port'.link.state.now took.time took.most (λ tick. some_asked old.ecu asked (took.ticks tick));
        within = took.within;
      };
      served = λ setup M K h. stretched (opening setup) [] setup M K h;
      stretched = stretched;
    }

-- the entries of a stretch, each with its delay, are those entries
pub entries_timed : (s : State) (K : List Entry) → entries_of (timed s K) ≡ K
entries_timed s [] = refl
entries_timed s (k ∷ K) = ap (λ w. k ∷ w) (entries_timed (after_step s k.who k.step) K)

-- a server whose ECU was set begins a new stretch
pub was_set : (old new : ServerState) (set : State) → new.ecu ≡ set → new.ports ≡ old.ports → WasSet old new set
was_set old new set ecu ports = record {
  ecu = ecu;
  ports = ports;
  stretched = λ opened T setup M K h.
      let past = T ++ timed opened K in
      let entries : entries_of past ≡ entries_of T ++ K =
      map-append (λ (x : Timed). x.entry) T (timed opened K) ∙ ap (λ w. entries_of T ++ w) (entries_timed opened K) in
      record {
        legal = tt;
        ecu = ecu;
        testers = ap length ports ∙ h.testers;
        run = ap asked_by (append-nil (entries_of past) ∙ entries) ∙ h.run;
        ports = λ i port at. subst (λ w. PortStands (link_of setup (i + 1)) (pace_of setup) port (items_of M (i + 1)) (own_timed w (i + 1)))
            (sym (append-nil past)) (h.ports i port (subst (λ ls. slice_get ls i ≡ Some port) ports at));
      };
}
