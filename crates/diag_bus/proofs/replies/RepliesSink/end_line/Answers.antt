use Rattle.std.proofs.Common.{◌++◌, ap, sym, ◌∙◌}
use Rattle.std.proofs.lemmas.Result.{on_ok_weaker}
use Rattle.diag_bus.specs.Node.{lists_of}
use Rattle.diag_bus.specs.Text.{drawn_text, text_of}
use Rattle.diag_bus.proofs.Texts.{line_writes, text_push}
use Rattle.diag_bus.proofs.replies.RepliesSink.end_line.Goals as goal

pub returns-clause-ended : goal.returns-clause-ended
returns-clause-ended c =
    let setup = c.args.setup.now in
    let clock = c.args.clock.now in
    let lists = lists_of c.args.drawn.now in
    on_ok_weaker c.write.result (λ wrote. record {
      more = drawn_text setup clock.start lists;
      grown = wrote;
      holds = λ lines line K ends taken. (
        tt,
        text_push setup lines line ∙ ap (λ w. text_of setup lines ++ w) (sym (line_writes setup lines line ends.server lists clock ends.taken)),
      );
    }) c.write.ensures.ok
