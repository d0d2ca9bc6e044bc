-- The graph, the settings and the stores, and the start of the new decoder.
use mathlib.Core.Path.{refl, sym, ap, ◌∙◌}
use native.Mathlib.Omega.{arith}
use Rattle.std.proofs.lemmas.Result.{err_from_is_err_and}
use Rattle.stores.specs.Rep.{lent}
use Rattle.fst.specs.Answer.{graph_of}
use Rattle.nonemitting.specs.Expand.{graph_tables}
use Rattle.decoder.specs.Fit.{lengths_of, new_decoder, all_known, fill_asks, few_records, begin_asks, fit_called_lem, graph_refused, fit_refused}
use Rattle.decoder.proofs.fit.Goals as goal

pub returns-then-fit_wrong : goal.returns-then-fit_wrong
returns-then-fit_wrong c = let a = c.args in fit_refused (graph_of a.offsets.now a.ilabels.now a.olabels.now a.weights.now a.nextstates.now a.finals.now a.tid2pdf.now a.tid2phone.now a.start a.pdfs) (graph_tables a.offsets.now a.ilabels.now a.olabels.now a.weights.now a.nextstates.now a.tid2pdf.now a.tid2phone.now) (lent a.tokens.now a.sums.now a.records.now a.labels.now a.gaps.now) (lengths_of (lent a.tokens.now a.sums.now a.records.now a.labels.now a.gaps.now) a.eps.now a.scratch.now a.keys.now a.places.now a.own.now a.heads.now a.list.now a.lists.now a.route.now a.history_keys.now a.history_skips.now a.kept_hashes.now a.kept_links.now a.kept_sums.now a.order.now) a.queue.now a.eps.now a.config _ (sym c.in_ok-graph.was ∙ c.build.ensures) (sym c.fit_wrong.ensures ∙ c.if-fit_wrong.true) _ c.unfit.ensures

pub fill_eps-requires : goal.fill_eps-requires
fill_eps-requires c = let a = c.args in fill_asks (graph_of a.offsets.now a.ilabels.now a.olabels.now a.weights.now a.nextstates.now a.finals.now a.tid2pdf.now a.tid2phone.now a.start a.pdfs) (graph_tables a.offsets.now a.ilabels.now a.olabels.now a.weights.now a.nextstates.now a.tid2pdf.now a.tid2phone.now) (lent a.tokens.now a.sums.now a.records.now a.labels.now a.gaps.now) (lengths_of (lent a.tokens.now a.sums.now a.records.now a.labels.now a.gaps.now) a.eps.now a.scratch.now a.keys.now a.places.now a.own.now a.heads.now a.list.now a.lists.now a.route.now a.history_keys.now a.history_skips.now a.kept_hashes.now a.kept_links.now a.kept_sums.now a.order.now) a.queue.now a.eps.now a.config _ (sym c.in_ok-graph.was ∙ c.build.ensures) (record { tokens = refl; sums = refl; records = refl; labels = refl; gaps = refl; eps_are = refl }) (sym c.fit_wrong.ensures ∙ c.if-fit_wrong.false)

pub overflow_cast-record_places : goal.overflow_cast-record_places
overflow_cast-record_places c = let a = c.args in let z = few_records (graph_of a.offsets.now a.ilabels.now a.olabels.now a.weights.now a.nextstates.now a.finals.now a.tid2pdf.now a.tid2phone.now a.start a.pdfs) (graph_tables a.offsets.now a.ilabels.now a.olabels.now a.weights.now a.nextstates.now a.tid2pdf.now a.tid2phone.now) (lent a.tokens.now a.sums.now a.records.now a.labels.now a.gaps.now) (lengths_of (lent a.tokens.now a.sums.now a.records.now a.labels.now a.gaps.now) a.eps.now a.scratch.now a.keys.now a.places.now a.own.now a.heads.now a.list.now a.lists.now a.route.now a.history_keys.now a.history_skips.now a.kept_hashes.now a.kept_links.now a.kept_sums.now a.order.now) a.queue.now a.eps.now a.config _ (sym c.in_ok-graph.was ∙ c.build.ensures) (record { tokens = refl; sums = refl; records = refl; labels = refl; gaps = refl; eps_are = refl }) (sym c.fit_wrong.ensures ∙ c.if-fit_wrong.false) in let e = c.record_places.ensures in record { fits = omega arith }

pub begin_within-requires : goal.begin_within-requires
begin_within-requires c = let a = c.args in begin_asks (graph_of a.offsets.now a.ilabels.now a.olabels.now a.weights.now a.nextstates.now a.finals.now a.tid2pdf.now a.tid2phone.now a.start a.pdfs) (graph_tables a.offsets.now a.ilabels.now a.olabels.now a.weights.now a.nextstates.now a.tid2pdf.now a.tid2phone.now) (lent a.tokens.now a.sums.now a.records.now a.labels.now a.gaps.now) (lengths_of (lent a.tokens.now a.sums.now a.records.now a.labels.now a.gaps.now) a.eps.now a.scratch.now a.keys.now a.places.now a.own.now a.heads.now a.list.now a.lists.now a.route.now a.history_keys.now a.history_skips.now a.kept_hashes.now a.kept_links.now a.kept_sums.now a.order.now) a.queue.now a.eps.now a.config _ (sym c.in_ok-graph.was ∙ c.build.ensures) (record { tokens = refl; sums = refl; records = refl; labels = refl; gaps = refl; eps_are = refl }) (sym c.fit_wrong.ensures ∙ c.if-fit_wrong.false) (record { offsets = refl; ilabels = refl; olabels = refl; weights = refl; nextstates = refl; pdfs = refl; phones = refl; heard = tt }) (record { weights = all_known _ c.shared_slice_known-16-1.given; finals = all_known _ c.shared_slice_known-18-1.given }) _ c.fill_eps.auto.table c.fill_eps.ensures _ (c.new_decoder-d.ensures ∙ ap (new_decoder _ c.args.config) c.record_places.ensures)

pub returns-in_err-graph : goal.returns-in_err-graph
returns-in_err-graph c = let p = err_from_is_err_and c.from_residual.result c.from_residual.ensures.1 in let a = c.args in rw (p.1, p.2) (graph_refused (graph_of a.offsets.now a.ilabels.now a.olabels.now a.weights.now a.nextstates.now a.finals.now a.tid2pdf.now a.tid2phone.now a.start a.pdfs) (graph_tables a.offsets.now a.ilabels.now a.olabels.now a.weights.now a.nextstates.now a.tid2pdf.now a.tid2phone.now) (lent a.tokens.now a.sums.now a.records.now a.labels.now a.gaps.now) (lengths_of (lent a.tokens.now a.sums.now a.records.now a.labels.now a.gaps.now) a.eps.now a.scratch.now a.keys.now a.places.now a.own.now a.heads.now a.list.now a.lists.now a.route.now a.history_keys.now a.history_skips.now a.kept_hashes.now a.kept_links.now a.kept_sums.now a.order.now) a.queue.now a.eps.now a.config _ (sym c.in_err-graph.was ∙ c.build.ensures))

pub returns : goal.returns
returns c = let a = c.args in fit_called_lem (graph_of a.offsets.now a.ilabels.now a.olabels.now a.weights.now a.nextstates.now a.finals.now a.tid2pdf.now a.tid2phone.now a.start a.pdfs) (graph_tables a.offsets.now a.ilabels.now a.olabels.now a.weights.now a.nextstates.now a.tid2pdf.now a.tid2phone.now) (lent a.tokens.now a.sums.now a.records.now a.labels.now a.gaps.now) (lengths_of (lent a.tokens.now a.sums.now a.records.now a.labels.now a.gaps.now) a.eps.now a.scratch.now a.keys.now a.places.now a.own.now a.heads.now a.list.now a.lists.now a.route.now a.history_keys.now a.history_skips.now a.kept_hashes.now a.kept_links.now a.kept_sums.now a.order.now) a.queue.now a.eps.now a.config _ (sym c.in_ok-graph.was ∙ c.build.ensures) (record { tokens = refl; sums = refl; records = refl; labels = refl; gaps = refl; eps_are = refl }) (sym c.fit_wrong.ensures ∙ c.if-fit_wrong.false) (record { offsets = refl; ilabels = refl; olabels = refl; weights = refl; nextstates = refl; pdfs = refl; phones = refl; heard = tt }) (record { weights = all_known _ c.shared_slice_known-16-1.given; finals = all_known _ c.shared_slice_known-18-1.given }) _ c.fill_eps.auto.table c.fill_eps.ensures _ (c.new_decoder-d.ensures ∙ ap (new_decoder _ c.args.config) c.record_places.ensures) _ _ _ c.begin_within.ensures (record { tokens = c.begin_within.auto.tokens; sums = c.begin_within.auto.sums; records = c.begin_within.auto.records; labels = c.begin_within.auto.labels; gaps = c.begin_within.auto.gaps }) c.begin_within.auto.queue _ refl
