use Rattle.raw_trace.proofs.Plain.{trace_plain, listed, no_markup}
use Rattle.raw_trace.proofs.PlainSources.{sources_plain}
use Rattle.raw_trace.proofs.laws.law_no_markup.Goals as goal

pub returns-clause-text : goal.returns-clause-text
returns-clause-text c = trace_plain

pub returns-clause-listing : goal.returns-clause-listing
returns-clause-listing c = listed

pub returns-clause-sources : goal.returns-clause-sources
returns-clause-sources c = sources_plain

pub returns-clause-no_markup : goal.returns-clause-no_markup
returns-clause-no_markup c = no_markup
