mod Policies
mod Traces
