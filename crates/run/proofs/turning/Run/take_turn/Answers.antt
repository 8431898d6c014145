use Rattle.std.proofs.Common.{◌≡◌, Ok, Err, rules}
use Rattle.receipts.specs.Sides.{Both, pick}
use Rattle.rewriting.specs.Streams.{Stream}
use Rattle.joining.specs.Guards.{both}
use Rattle.query.specs.Queries.{setup, state}
use Rattle.run_laws.specs.Runs.{run_fault}
use Rattle.run.specs.declared.feeding.Step.TheVariants as step
use Rattle.run.specs.States.{standing}
use Rattle.run.specs.Steps.{fed, stepped}
use Rattle.run.specs.Turns.{sides, entries_of, shallows}
use Rattle.run.proofs.TurnsTaken.{step_turn, ended_turn, ended_spent, faulted, advanced_turn}
use Rattle.run.proofs.turning.Run.take_turn.Goals as goal

pub returns-in_err-feed-clause-value : goal.returns-in_err-feed-clause-value
returns-in_err-feed-clause-value g c =
    let q = state c.args.self.now.query in
    let srcs : Both Stream = both (g.A.Source.stream c.args.left.now) (g.B.Source.stream c.args.right.now) in
    let srcs' : Both Stream = both (g.A.Source.stream c.feed.new.left) (g.B.Source.stream c.feed.new.right) in
    let told : c.from_residual.result ≡ Err c.in_err-feed.field-0.0 = search rules in
    rw told (step_turn (setup c.args.self.now.query) q (state c.feed.new.query) srcs srcs' c.args.lines.now c.args.windows.now
    (sides c.args.self.now.over) c.args.self.now.written c.next_side-side.result c.next_side-side.ensures c.feed.ensures.after
    (Err c.in_err-feed.field-0.0) c.in_err-feed.ensures.value.0)

pub returns-in-Ended-clause-value : goal.returns-in-Ended-clause-value
returns-in-Ended-clause-value g c =
    let q = state c.args.self.now.query in
    let srcs : Both Stream = both (g.A.Source.stream c.args.left.now) (g.B.Source.stream c.args.right.now) in
    let srcs' : Both Stream = both (g.A.Source.stream c.feed.new.left) (g.B.Source.stream c.feed.new.right) in
    let made : fed (Ok step.Ended) (state c.feed.new.query) ≡ stepped (setup c.args.self.now.query) q c.next_side-side.result
    (pick c.next_side-side.result (shallows srcs)) = rw c.in-Ended.is at c.in_ok-feed.ensures.value.0 in
    ended_turn (setup c.args.self.now.query) q (state c.feed.new.query) srcs srcs' c.args.lines.now c.args.windows.now
    (sides c.args.self.now.over) c.args.self.now.written c.next_side-side.result c.next_side-side.ensures c.feed.ensures.after
    made (sides c.end.new.self) c.end.ensures

pub returns-in-Ended-clause-spent : goal.returns-in-Ended-clause-spent
returns-in-Ended-clause-spent g c =
    let q = state c.args.self.now.query in
    let srcs : Both Stream = both (g.A.Source.stream c.args.left.now) (g.B.Source.stream c.args.right.now) in
    let srcs' : Both Stream = both (g.A.Source.stream c.feed.new.left) (g.B.Source.stream c.feed.new.right) in
    let made : fed (Ok step.Ended) (state c.feed.new.query) ≡ stepped (setup c.args.self.now.query) q c.next_side-side.result
    (pick c.next_side-side.result (shallows srcs)) = rw c.in-Ended.is at c.in_ok-feed.ensures.value.0 in
    ended_spent (setup c.args.self.now.query) q (state c.feed.new.query) srcs srcs' c.args.lines.now c.args.windows.now
    (sides c.args.self.now.over) c.args.self.now.written c.next_side-side.result c.next_side-side.ensures c.feed.ensures.after
    made (sides c.end.new.self) c.end.ensures c.requires.unended

pub returns-in-Accepted-clause-value : goal.returns-in-Accepted-clause-value
returns-in-Accepted-clause-value g c =
    let q = state c.args.self.now.query in
    let srcs : Both Stream = both (g.A.Source.stream c.args.left.now) (g.B.Source.stream c.args.right.now) in
    let srcs' : Both Stream = both (g.A.Source.stream c.feed.new.left) (g.B.Source.stream c.feed.new.right) in
    let made : fed (Ok step.Accepted) (state c.feed.new.query) ≡ stepped (setup c.args.self.now.query) q c.next_side-side.result
    (pick c.next_side-side.result (shallows srcs)) = rw c.in-Accepted.is at c.in_ok-feed.ensures.value.0 in
    step_turn (setup c.args.self.now.query) q (state c.feed.new.query) srcs srcs' c.args.lines.now c.args.windows.now
    (sides c.args.self.now.over) c.args.self.now.written c.next_side-side.result c.next_side-side.ensures c.feed.ensures.after
    (Ok step.Accepted) made

pub returns-in-Advanced-clause-value : goal.returns-in-Advanced-clause-value
returns-in-Advanced-clause-value g c =
    let q = state c.args.self.now.query in
    let srcs : Both Stream = both (g.A.Source.stream c.args.left.now) (g.B.Source.stream c.args.right.now) in
    let srcs' : Both Stream = both (g.A.Source.stream c.feed.new.left) (g.B.Source.stream c.feed.new.right) in
    let at = c.in-Advanced.place in
    let made : fed (Ok (step.Advanced at)) (state c.feed.new.query) ≡ stepped (setup c.args.self.now.query) q c.next_side-side.result
    (pick c.next_side-side.result (shallows srcs)) = rw c.in-Advanced.is at c.in_ok-feed.ensures.value.0 in
    let told : c.map_err.result ≡ faulted (run_fault c.next_side-side.result at.depth at.number) c.close_all.result = search rules in
    rw c.close_all.ensures.over (advanced_turn (setup c.args.self.now.query) q (state c.feed.new.query) srcs srcs' c.args.lines.now c.args.windows.now
    (sides c.args.self.now.over) c.args.self.now.written c.next_side-side.result c.next_side-side.ensures c.feed.ensures.after
    at made (setup c.feed.new.query) c.feed.ensures.value.1
    (standing (state c.close_all.new.self.query) (entries_of srcs') (sides c.args.self.now.over) c.close_all.new.lines c.close_all.new.windows c.close_all.new.self.written)
    c.close_all.result c.requires.fits.1 (c.close_all.ensures.value _ _ _) c.map_err.result told)
