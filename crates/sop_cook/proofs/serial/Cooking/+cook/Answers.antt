use Rattle.std.proofs.Common.{◌∙◌, ◌+◌, ◌++◌, ℕ, length, List, [], ◌∷◌, ap, sym, subst, arith}
use Rattle.std.specs.Prelude.{All, IfSome, IsSome, IsTrue, Contains, Option, option_map, option_to_list}
use Rattle.std.proofs.lemmas.List.{length-append, map-append}
use Rattle.std.proofs.lemmas.List.Elements.{All-nil, All-push}
use Rattle.sop_model.specs.declared.geo.Geo.{Geo}
use Rattle.sop_net.specs.Graph.{Within}
use Rattle.sop_net.specs.Network.{node_of, used_sources}
use Rattle.sop_net.specs.Sockets.{sockets_from, sockets_of}
use Rattle.sop_net.proofs.UsedLemmas.{within_less}
use Rattle.sop_vault.specs.Passing.{Passes, Owns}
use Rattle.sop_vault.proofs.PassLemmas.{passes_none, passes_then, owns_back}
use Rattle.sop_basic.specs.Loads.{file_in}
use Rattle.sop_cook.specs.Made.{made}
use Rattle.sop_cook.specs.Visit.{ask, ask_all}
use Rattle.sop_cook.specs.Ends.{geo_at, seen}
use Rattle.sop_cook.specs.Keys.{inputs_at, keys_in, key_of}
use Rattle.sop_cook.specs.Parts.{AreFilled, TellsMade, GoesOn, EndsSo}
use Rattle.sop_cook.specs.Cooking.{nodes_of, keys_of, gives}
use Rattle.sop_cook.proofs.CookLemmas.{Asked, visit_made, visit_failed, asked_none, asked_more, asked_failed, asked_all}
use Rattle.sop_cook.proofs.CookingLemmas.{same_gives, same_nodes, sockets_known, source_there, filled_from, built_known}
use Rattle.sop_cook.proofs.HandLemmas.{Gathered, take_running, take_owns, take_passes, take_told, gathered_none, inputs_stay, gathered_more, failed_held, failed_on, failed_passes, failed_owns, made_held, made_passes, made_owns, made_on, made_stay, made_seen}
use Rattle.sop_cook.proofs.serial.Cooking.+cook.Goals as goal

-- ONE INPUT

pub ask-give-requires : goal.ask-give-requires
ask-give-requires t c =
    let nodes = nodes_of c.args.self.now in
    let used : Contains (used_sources nodes c.args.node) c.in-Some.source = subst (λ wire. IfSome wire (λ source. Contains (used_sources nodes c.args.node) source)) c.in-Some.is c.requires.used in
    let step = within_less (used_sources nodes) c.args.left c.args.node c.in-Some.source c.requires.within used in (
      omega (arith, step.0),
      (c.is_network.ensures.used_live c.args.node c.in-Some.source used, (step.1, (c.requires.running, c.requires.owns))),
    )

pub ask-returns-in-None-clause-passes_err : goal.ask-returns-in-None-clause-passes_err
ask-returns-in-None-clause-passes_err t c = passes_none c.args.vault.now (keys_of c.args.self.now)

pub ask-returns-in-None-2-clause-passes : goal.ask-returns-in-None-2-clause-passes
ask-returns-in-None-2-clause-passes t c = passes_none c.args.vault.now (keys_of c.args.self.now)

-- ALL INPUTS

pub gather-returns-in-Err-clause-passes_err : goal.gather-returns-in-Err-clause-passes_err
gather-returns-in-Err-clause-passes_err t c = passes_none c.args.vault.now (keys_of c.args.self.now)

pub gather-loop-i-init : goal.gather-loop-i-init
gather-loop-i-init t c =
    let u = c.args.vault.now in
    let self = c.args.self.now in
    let none = c.in-Ok.ensures.items in
    record {
      room = let a = c.in-Ok.ensures in omega (arith, a, ap (λ (xs : List (Option ℕ)). length xs) none);
      many = ap (λ (xs : List (Option ℕ)). length xs) none;
      few = omega arith;
      filled = subst (All (λ key. IsTrue c.sockets-first.result.are_needed → IsSome key)) (sym none) (All-nil (λ key. IsTrue c.sockets-first.result.are_needed → IsSome key));
      hands = subst (Gathered self u self u) (sym none) (gathered_none self u c.requires.running c.requires.owns);
      asked = asked_none (gives self) c.args.node c.sockets-first.result.first c.sockets-first.result.are_needed c.sockets-first.result.wires.now (inputs_at u c.in-Ok.inputs.items) (ap (inputs_at u) none);
    }

pub gather-ask-requires : goal.gather-ask-requires
gather-ask-requires t c =
    let hands = c.loop-i.invariant.hands in
    let same = same_nodes c.args.self.now c.loop-i.self hands.on.net in
    let wire = c.index-wires-i.result in (
      omega arith,
      (
        subst (λ nodes. IfSome wire (λ source. Contains (used_sources nodes c.args.node) source)) (sym same)
            (source_there (nodes_of c.args.self.now) c.args.node c.loop-i.i c.sockets-first.result.wires.now wire wire c.sockets-first.ensures.wires c.loop-i-test.true c.index-wires-i.is),
        (subst (λ nodes. Within (used_sources nodes) c.args.left c.args.node) (sym same) c.requires.within, (hands.on.running, owns_back c.loop-i.vault (keys_in c.loop-i.inputs.items) (keys_of c.loop-i.self) hands.owns)),
      ),
    )

pub gather-push_reserved-requires : goal.gather-push_reserved-requires
gather-push_reserved-requires t c = let a = c.loop-i.invariant.room in let b = c.loop-i-test.true in omega (arith, a, b)

pub gather-drop_all-requires : goal.gather-drop_all-requires
gather-drop_all-requires t c =
    let e = c.in-Err-ask.ensures in
    subst (λ (keys : List (Option ℕ)). Owns c.ask.new.vault (keys_in keys)) (sym c.as_slice.ensures.value)
    (failed_held c.args.self.now c.args.vault.now c.loop-i.self c.loop-i.vault c.loop-i.inputs.items c.loop-i.invariant.hands c.ask.new.self c.ask.new.vault e.on e.passes_err e.owns_err)

pub gather-returns-in-Err-ask-clause-on : goal.gather-returns-in-Err-ask-clause-on
gather-returns-in-Err-ask-clause-on t c =
    let e = c.in-Err-ask.ensures in
    let gone = subst (λ (keys : List (Option ℕ)). Passes c.ask.new.vault (keys_in keys) c.drop_all.new.vault []) c.as_slice.ensures.value c.drop_all.ensures in
    failed_on c.args.self.now c.args.vault.now c.loop-i.self c.loop-i.vault c.loop-i.inputs.items c.loop-i.invariant.hands c.ask.new.self c.ask.new.vault e.on e.passes_err e.owns_err c.drop_all.new.vault gone

pub gather-returns-in-Err-ask-clause-err : goal.gather-returns-in-Err-ask-clause-err
gather-returns-in-Err-ask-clause-err t c =
    let on = c.loop-i.invariant.hands.on in
    let go = gives c.args.self.now in
    let first = c.sockets-first.result.first in
    let needed = c.sockets-first.result.are_needed in
    let wires = c.sockets-first.result.wires.now in
    let wire = c.index-wires-i.result in
    sockets_known (λ sockets. EndsSo go (ask_all c.args.node sockets) c.in-Err-ask.end) (node_of (nodes_of c.args.self.now) c.args.node) (sockets_from first needed wires) c.sockets-first.ensures.sockets
    (asked_failed go c.args.node first needed wires c.loop-i.i (inputs_at c.loop-i.vault c.loop-i.inputs.items) wire wire c.in-Err-ask.end c.loop-i-test.true (sym c.index-wires-i.is) c.loop-i.invariant.asked
    (subst (λ go. EndsSo go (ask c.args.node (first + c.loop-i.i) needed wire) c.in-Err-ask.end) (same_gives c.args.self.now c.loop-i.self on.net on.loaded) c.in-Err-ask.ensures.err))

pub gather-returns-in-Err-ask-clause-passes_err : goal.gather-returns-in-Err-ask-clause-passes_err
gather-returns-in-Err-ask-clause-passes_err t c =
    let e = c.in-Err-ask.ensures in
    let gone = subst (λ (keys : List (Option ℕ)). Passes c.ask.new.vault (keys_in keys) c.drop_all.new.vault []) c.as_slice.ensures.value c.drop_all.ensures in
    failed_passes c.args.self.now c.args.vault.now c.loop-i.self c.loop-i.vault c.loop-i.inputs.items c.loop-i.invariant.hands c.ask.new.self c.ask.new.vault e.on e.passes_err e.owns_err c.drop_all.new.vault gone

pub gather-returns-in-Err-ask-clause-owns_err : goal.gather-returns-in-Err-ask-clause-owns_err
gather-returns-in-Err-ask-clause-owns_err t c =
    let e = c.in-Err-ask.ensures in
    let gone = subst (λ (keys : List (Option ℕ)). Passes c.ask.new.vault (keys_in keys) c.drop_all.new.vault []) c.as_slice.ensures.value c.drop_all.ensures in
    failed_owns c.args.self.now c.args.vault.now c.loop-i.self c.loop-i.vault c.loop-i.inputs.items c.loop-i.invariant.hands c.ask.new.self c.ask.new.vault e.on e.passes_err e.owns_err c.drop_all.new.vault gone

pub gather-loop-i-preserved : goal.gather-loop-i-preserved
gather-loop-i-preserved t c =
    let self = c.args.self.now in
    let u = c.args.vault.now in
    let v = c.loop-i.vault in
    let w = c.ask.new.vault in
    let inputs = c.loop-i.inputs.items in
    let input = c.in-Ok-ask.input in
    let hands = c.loop-i.invariant.hands in
    let e = c.in-Ok-ask.ensures in
    let items = c.push_reserved.ensures.items in
    let go = gives self in
    let first = c.sockets-first.result.first in
    let needed = c.sockets-first.result.are_needed in
    let wires = c.sockets-first.result.wires.now in
    let wire = c.index-wires-i.result in
    record {
      room = let a = c.loop-i.invariant.room in let b = c.push_reserved.ensures in omega (arith, a, b.len, b.capacity);
      many = omega (arith, ap (λ (xs : List (Option ℕ)). length xs) items, length-append inputs (input ∷ []), c.loop-i.invariant.many);
      few = omega (arith, c.loop-i-test.true);
      filled = subst (All (λ key. IsTrue needed → IsSome key)) (sym items) (All-push (λ key. IsTrue needed → IsSome key) inputs input c.loop-i.invariant.filled e.given);
      hands = subst (Gathered self u c.ask.new.self w) (sym items) (gathered_more self u c.loop-i.self v inputs hands c.ask.new.self w e.on input e.ready e.passes e.owns);
      asked =
          asked_more go c.args.node first needed wires c.loop-i.i (inputs_at w inputs) (inputs_at w c.push_reserved.new.self.items) wire wire (option_map (geo_at w) input) c.loop-i-test.true (sym c.index-wires-i.is)
          (subst (λ (gs : List (Option Geo)). Asked go c.args.node first needed wires c.loop-i.i gs) (sym (inputs_stay self u c.loop-i.self v inputs hands c.ask.new.self w e.on input e.ready e.passes e.owns)) c.loop-i.invariant.asked)
          (subst (λ go. GoesOn go (ask c.args.node (first + c.loop-i.i) needed wire) (option_map (geo_at w) input)) (same_gives self c.loop-i.self hands.on.net hands.on.loaded) e.ok)
          (ap (inputs_at w) items ∙ map-append (option_map (geo_at w)) inputs (input ∷ []));
    }

pub gather-returns-clause-on : goal.gather-returns-clause-on
gather-returns-clause-on t c = c.loop-i.invariant.hands.on

pub gather-returns-clause-ok : goal.gather-returns-clause-ok
gather-returns-clause-ok t c =
    let go = gives c.args.self.now in
    let first = c.sockets-first.result.first in
    let needed = c.sockets-first.result.are_needed in
    let wires = c.sockets-first.result.wires.now in
    let inputs = inputs_at c.loop-i.vault c.loop-i.inputs.items in
    sockets_known (λ sockets. GoesOn go (ask_all c.args.node sockets) inputs) (node_of (nodes_of c.args.self.now) c.args.node) (sockets_from first needed wires) c.sockets-first.ensures.sockets
    (asked_all go c.args.node first needed wires c.loop-i.i inputs c.loop-i-test.false c.loop-i.invariant.asked)

pub gather-returns-clause-filled : goal.gather-returns-clause-filled
gather-returns-clause-filled t c =
    let first = c.sockets-first.result.first in
    let needed = c.sockets-first.result.are_needed in
    let wires = c.sockets-first.result.wires.now in
    let keys = c.loop-i.inputs.items in
    sockets_known (λ sockets. AreFilled sockets keys) (node_of (nodes_of c.args.self.now) c.args.node) (sockets_from first needed wires) c.sockets-first.ensures.sockets
    (filled_from first needed wires keys (omega (arith, c.loop-i.invariant.many, c.loop-i.invariant.few, c.loop-i-test.false)) c.loop-i.invariant.filled)

pub gather-returns-clause-ready : goal.gather-returns-clause-ready
gather-returns-clause-ready t c = c.loop-i.invariant.hands.ready

pub gather-returns-clause-passes : goal.gather-returns-clause-passes
gather-returns-clause-passes t c = c.loop-i.invariant.hands.passes

pub gather-returns-clause-owns : goal.gather-returns-clause-owns
gather-returns-clause-owns t c = c.loop-i.invariant.hands.owns

-- A NODE

pub give-keep-requires-clause-running : goal.give-keep-requires-clause-running
give-keep-requires-clause-running t c =
    take_running c.args.vault.now c.args.self.now c.take.new.self c.args.node c.place-place.result c.take.result c.requires.running c.requires.owns c.place-place.ensures c.take.ensures.uses c.take.ensures.keys c.take.ensures.taken

pub give-keep-requires-clause-gives : goal.give-keep-requires-clause-gives
give-keep-requires-clause-gives t c =
    take_told c.args.vault.now c.args.self.now c.take.new.self c.args.node c.place-place.result c.take.result c.requires.running c.requires.owns c.place-place.ensures c.take.ensures.uses c.take.ensures.keys c.take.ensures.taken c.in-Some.key c.in-Some.is

pub give-keep-requires-clause-owns : goal.give-keep-requires-clause-owns
give-keep-requires-clause-owns t c =
    subst (λ (o : Option ℕ). Owns c.args.vault.now (option_to_list o ++ keys_in c.take.new.self.keys.items)) c.in-Some.is
    (take_owns c.args.vault.now c.args.self.now c.take.new.self c.args.node c.place-place.result c.take.result c.requires.running c.requires.owns c.place-place.ensures c.take.ensures.uses c.take.ensures.keys c.take.ensures.taken)

pub give-visit-requires : goal.give-visit-requires
give-visit-requires t c = (
  omega arith,
  (
    c.requires.live,
    (
      c.requires.within,
      (
        take_running c.args.vault.now c.args.self.now c.take.new.self c.args.node c.place-place.result c.take.result c.requires.running c.requires.owns c.place-place.ensures c.take.ensures.uses c.take.ensures.keys c.take.ensures.taken,
        subst (λ (o : Option ℕ). Owns c.args.vault.now (option_to_list o ++ keys_in c.take.new.self.keys.items)) c.in-None.is
            (take_owns c.args.vault.now c.args.self.now c.take.new.self c.args.node c.place-place.result c.take.result c.requires.running c.requires.owns c.place-place.ensures c.take.ensures.uses c.take.ensures.keys c.take.ensures.taken),
      ),
    ),
  ),
)

pub give-returns-in-Some-clause-passes : goal.give-returns-in-Some-clause-passes
give-returns-in-Some-clause-passes t c =
    take_passes c.args.vault.now c.args.self.now c.take.new.self c.args.node c.place-place.result c.take.result c.requires.running c.requires.owns c.place-place.ensures c.take.ensures.uses c.take.ensures.keys c.take.ensures.taken c.keep.new.vault _
    (subst (λ (o : Option ℕ). Passes c.args.vault.now (option_to_list o ++ keys_in c.take.new.self.keys.items) c.keep.new.vault (key_of c.keep.result ++ keys_of c.keep.new.self)) (sym c.in-Some.is) c.keep.ensures.passes)

pub give-returns-in-Ok-clause-passes : goal.give-returns-in-Ok-clause-passes
give-returns-in-Ok-clause-passes t c =
    let after = key_of c.keep-in-Ok.result ++ keys_of c.keep-in-Ok.new.self in
    take_passes c.args.vault.now c.args.self.now c.take.new.self c.args.node c.place-place.result c.take.result c.requires.running c.requires.owns c.place-place.ensures c.take.ensures.uses c.take.ensures.keys c.take.ensures.taken c.keep-in-Ok.new.vault after
    (subst (λ (o : Option ℕ). Passes c.args.vault.now (option_to_list o ++ keys_in c.take.new.self.keys.items) c.keep-in-Ok.new.vault after) (sym c.in-None.is)
    (passes_then c.args.vault.now c.visit.new.vault c.keep-in-Ok.new.vault (keys_in c.take.new.self.keys.items) (c.in-Ok.key ∷ keys_of c.visit.new.self) after c.in-Ok.ensures.passes c.keep-in-Ok.ensures.passes))

pub give-returns-in-Err-clause-passes : goal.give-returns-in-Err-clause-passes
give-returns-in-Err-clause-passes t c =
    take_passes c.args.vault.now c.args.self.now c.take.new.self c.args.node c.place-place.result c.take.result c.requires.running c.requires.owns c.place-place.ensures c.take.ensures.uses c.take.ensures.keys c.take.ensures.taken c.visit.new.vault (keys_of c.visit.new.self)
    (subst (λ (o : Option ℕ). Passes c.args.vault.now (option_to_list o ++ keys_in c.take.new.self.keys.items) c.visit.new.vault (keys_of c.visit.new.self)) (sym c.in-None.is) c.in-Err.ensures.passes)

-- A VISIT

pub visit-returns-then-not-is_built-clause-passes : goal.visit-returns-then-not-is_built-clause-passes
visit-returns-then-not-is_built-clause-passes t c = passes_none c.args.vault.now (keys_of c.args.self.now)

pub visit-make-made-requires-clause-built : goal.visit-make-made-requires-clause-built
visit-make-made-requires-clause-built t c = built_known (node_of (nodes_of c.args.self.now) c.args.node) c.node_type.result c.node_type.ensures (sym c.is_built.ensures ∙ c.if-not-is_built.false)

pub visit-make-made-requires-clause-filled : goal.visit-make-made-requires-clause-filled
visit-make-made-requires-clause-filled t c =
    subst (λ (keys : List (Option ℕ)). IfSome (node_of (nodes_of c.args.self.now) c.args.node) (λ n. AreFilled (sockets_of n) keys)) (sym c.as_slice.ensures.value) c.in-Ok.ensures.filled

pub visit-drop_all-requires : goal.visit-drop_all-requires
visit-drop_all-requires t c =
    subst (λ (keys : List (Option ℕ)). Owns c.make-made.new.vault (keys_in keys)) (sym c.as_slice-in-Ok.ensures.value) (made_held c.args.self.now c.args.vault.now c.gather.new.self c.gather.new.vault c.in-Ok.inputs.items c.in-Ok.ensures.passes c.in-Ok.ensures.owns c.in-Ok.ensures.on c.make-made.new.vault c.make-made.result c.make-made.ensures.passes c.make-made.ensures.owns)

pub visit-returns-in-Ok-clause-on : goal.visit-returns-in-Ok-clause-on
visit-returns-in-Ok-clause-on t c =
    let gone = subst (λ (keys : List (Option ℕ)). Passes c.make-made.new.vault (keys_in keys) c.drop_all.new.vault []) c.as_slice-in-Ok.ensures.value c.drop_all.ensures in
    made_on c.args.self.now c.args.vault.now c.gather.new.self c.gather.new.vault c.in-Ok.inputs.items c.in-Ok.ensures.passes c.in-Ok.ensures.owns c.in-Ok.ensures.on c.make-made.new.vault c.make-made.result c.make-made.ensures.passes c.make-made.ensures.owns c.drop_all.new.vault gone

pub visit-returns-in-Ok-clause-tells : goal.visit-returns-in-Ok-clause-tells
visit-returns-in-Ok-clause-tells t c =
    let gone = subst (λ (keys : List (Option ℕ)). Passes c.make-made.new.vault (keys_in keys) c.drop_all.new.vault []) c.as_slice-in-Ok.ensures.value c.drop_all.ensures in
    let nodes = nodes_of c.args.self.now in
    let files = file_in c.args.self.now.loaded.now in
    let x = c.args.node in
    let v = c.gather.new.vault in
    let z = c.drop_all.new.vault in
    let inputs = inputs_at v c.in-Ok.inputs.items in
    let same = (made_seen c.make-made.new.vault z c.make-made.result (keys_of c.gather.new.self) (made_stay c.args.self.now c.args.vault.now c.gather.new.self c.gather.new.vault c.in-Ok.inputs.items c.in-Ok.ensures.passes c.in-Ok.ensures.owns c.in-Ok.ensures.on c.make-made.new.vault c.make-made.result c.make-made.ensures.passes c.make-made.ensures.owns z gone)).0 in
    let told = subst (λ (keys : List (Option ℕ)). IfSome (node_of nodes x) (λ n. TellsMade (made (file_in c.gather.new.self.loaded.now) n (inputs_at v keys)) (seen c.make-made.new.vault c.make-made.result))) c.as_slice.ensures.value c.make-made.ensures.tells in
    let loaded = subst (λ loads. IfSome (node_of nodes x) (λ n. TellsMade (made (file_in loads) n inputs) (seen c.make-made.new.vault c.make-made.result))) c.in-Ok.ensures.on.loaded told in
    visit_made files nodes x c.node_type.result inputs (seen z c.made_at.result) (c.is_network.ensures.within_used x c.requires.live) c.node_type.ensures (sym c.is_built.ensures ∙ c.if-not-is_built.false) c.in-Ok.ensures.ok
    (λ n found. c.made_at.ensures.tells z (made files n inputs) (subst (λ r. TellsMade (made files n inputs) r) (sym same) (subst (λ f. IfSome f (λ n. TellsMade (made files n inputs) (seen c.make-made.new.vault c.make-made.result))) found loaded)))

pub visit-returns-in-Ok-clause-ready : goal.visit-returns-in-Ok-clause-ready
visit-returns-in-Ok-clause-ready t c =
    let gone = subst (λ (keys : List (Option ℕ)). Passes c.make-made.new.vault (keys_in keys) c.drop_all.new.vault []) c.as_slice-in-Ok.ensures.value c.drop_all.ensures in
    c.made_at.ensures.ready c.drop_all.new.vault
    ((made_seen c.make-made.new.vault c.drop_all.new.vault c.make-made.result (keys_of c.gather.new.self) (made_stay c.args.self.now c.args.vault.now c.gather.new.self c.gather.new.vault c.in-Ok.inputs.items c.in-Ok.ensures.passes c.in-Ok.ensures.owns c.in-Ok.ensures.on c.make-made.new.vault c.make-made.result c.make-made.ensures.passes c.make-made.ensures.owns c.drop_all.new.vault gone)).1 c.make-made.ensures.ready)

pub visit-returns-in-Ok-clause-passes : goal.visit-returns-in-Ok-clause-passes
visit-returns-in-Ok-clause-passes t c =
    let gone = subst (λ (keys : List (Option ℕ)). Passes c.make-made.new.vault (keys_in keys) c.drop_all.new.vault []) c.as_slice-in-Ok.ensures.value c.drop_all.ensures in
    subst (λ (keys : List ℕ). Passes c.args.vault.now (keys_of c.args.self.now) c.drop_all.new.vault (keys ++ keys_of c.gather.new.self)) (sym c.made_at.ensures.key)
    (made_passes c.args.self.now c.args.vault.now c.gather.new.self c.gather.new.vault c.in-Ok.inputs.items c.in-Ok.ensures.passes c.in-Ok.ensures.owns c.in-Ok.ensures.on c.make-made.new.vault c.make-made.result c.make-made.ensures.passes c.make-made.ensures.owns c.drop_all.new.vault gone)

pub visit-returns-in-Ok-clause-owns : goal.visit-returns-in-Ok-clause-owns
visit-returns-in-Ok-clause-owns t c =
    let gone = subst (λ (keys : List (Option ℕ)). Passes c.make-made.new.vault (keys_in keys) c.drop_all.new.vault []) c.as_slice-in-Ok.ensures.value c.drop_all.ensures in
    subst (λ (keys : List ℕ). Owns c.drop_all.new.vault (keys ++ keys_of c.gather.new.self)) (sym c.made_at.ensures.key) (made_owns c.args.self.now c.args.vault.now c.gather.new.self c.gather.new.vault c.in-Ok.inputs.items c.in-Ok.ensures.passes c.in-Ok.ensures.owns c.in-Ok.ensures.on c.make-made.new.vault c.make-made.result c.make-made.ensures.passes c.make-made.ensures.owns c.drop_all.new.vault gone)

pub visit-returns-in-Err-clause-tells : goal.visit-returns-in-Err-clause-tells
visit-returns-in-Err-clause-tells t c =
    visit_failed (file_in c.args.self.now.loaded.now) (nodes_of c.args.self.now) c.args.node c.node_type.result c.in-Err.end (c.is_network.ensures.within_used c.args.node c.requires.live) c.node_type.ensures
    (sym c.is_built.ensures ∙ c.if-not-is_built.false) c.in-Err.ensures.err
